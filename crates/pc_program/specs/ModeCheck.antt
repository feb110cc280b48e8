-- Mode check. Own profile.
use Rattle.std.specs.Prelude.{◌≡◌, ℕ, ◌<◌, ◌↔◌, List, Option, None, Some, IfSome, length, take}
use Rattle.std.specs.Io.KnownBytes.{Appends}
use Rattle.pc_check.specs.declared.rule.Rule.{Rule}
use Rattle.pc_checking.specs.Ends.{run_line}
use Rattle.pc_program.specs.Causes.{HasBegunWriting, IfDone, IfRead, IfWriteFault, IsOfCheck}
use Rattle.pc_program.specs.declared.status.Status.{Status}
use Rattle.pc_program.specs.declared.status.Status.TheVariants as statuses
use Rattle.pc_verdict.specs.declared.verdict.Verdict.{Verdict}
use Rattle.pc_verdict.specs.declared.verdict.Verdict.TheVariants as verdicts
use Rattle.pc_verdict.specs.Verdicts.{IsVerdictOf}

-- The verdict that the status tells, if it tells one: who writes `run`, or begins to, has found a run.
abbrev pub verdict_told : Status → Option Verdict
verdict_told statuses.Done = Some verdicts.Run
verdict_told (statuses.WriteFault written) = Some verdicts.Run
verdict_told (statuses.NotRun line rule) = Some (verdicts.NotRun line rule)
verdict_told (statuses.Journal line) = Some (verdicts.Malformed line)
verdict_told statuses.Usage = None
verdict_told statuses.ReadFault = None
verdict_told (statuses.Workload number) = None
verdict_told (statuses.TooLong bytes) = None
verdict_told statuses.NoMemory = None

-- A check ended so, where the source had these bytes left, and the sink had taken the old bytes before and has taken the new ones since.
-- Each verdict is told exactly where it is right of the bytes. Done is the line `run` behind what the sink had taken, and a write fault is a
-- part of it.
pub record HasChecked (status : Status) (left old new : Option (List ℕ)) : Type 0 where
  pub run : IfRead status (IfSome left (λ bytes. HasBegunWriting status ↔ IsVerdictOf bytes verdicts.Run))
  pub not_run : IfRead status (IfSome left (λ bytes. (line : ℕ) (rule : Rule) → (status ≡ statuses.NotRun line rule) ↔ IsVerdictOf bytes (verdicts.NotRun line rule)))
  pub malformed : IfRead status (IfSome left (λ bytes. (line : ℕ) → (status ≡ statuses.Journal line) ↔ IsVerdictOf bytes (verdicts.Malformed line)))
  pub done : IfDone status (Appends old new run_line)
  pub part : IfWriteFault status (λ written. Appends old new (take written run_line))
  pub short : IfWriteFault status (λ written. written < length run_line)
  pub kind : IsOfCheck status
