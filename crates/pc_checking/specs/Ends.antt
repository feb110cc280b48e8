-- What a check that ended so has found, read and written. Own profile.
use Rattle.std.specs.Prelude.{ℕ, List, [], Option, None, Some, ⊤, codes}
use Rattle.pc_checking.specs.declared.checked.Checked.{Checked}
use Rattle.pc_checking.specs.declared.checked.Checked.TheVariants as ends
use Rattle.pc_journal.specs.Side.{◌⏎◌}
use Rattle.pc_verdict.specs.declared.verdict.Verdict.{Verdict}
use Rattle.pc_verdict.specs.declared.verdict.Verdict.TheVariants as verdicts

-- The one line that is written: `run`.
abbrev pub run_line : List ℕ
run_line = codes "run" ⏎ []

-- The verdict that was found, if it came so far.
abbrev pub verdict_in : Checked → Option Verdict
verdict_in ends.Run = Some verdicts.Run
verdict_in (ends.NotRun line rule) = Some (verdicts.NotRun line rule)
verdict_in (ends.Malformed line) = Some (verdicts.Malformed line)
verdict_in (ends.WriteFault written) = Some verdicts.Run
verdict_in ends.ReadFault = None
verdict_in (ends.TooLong bytes) = None
verdict_in ends.NoMemory = None

-- What the fact says of the number of bytes after which the sink failed.
abbrev pub IfStopped : Checked → (ℕ → Type 0) → Type 0
IfStopped (ends.WriteFault written) fact = fact written
IfStopped ends.Run fact = ⊤
IfStopped (ends.NotRun line rule) fact = ⊤
IfStopped (ends.Malformed line) fact = ⊤
IfStopped ends.ReadFault fact = ⊤
IfStopped (ends.TooLong bytes) fact = ⊤
IfStopped ends.NoMemory fact = ⊤

-- Unless the sink failed, the fact.
abbrev pub UnlessStopped : Checked → Type 0 → Type 0
UnlessStopped (ends.WriteFault written) fact = ⊤
UnlessStopped ends.Run fact = fact
UnlessStopped (ends.NotRun line rule) fact = fact
UnlessStopped (ends.Malformed line) fact = fact
UnlessStopped ends.ReadFault fact = fact
UnlessStopped (ends.TooLong bytes) fact = fact
UnlessStopped ends.NoMemory fact = fact

-- Where the sink was not called, the fact.
abbrev pub UnlessWritten : Checked → Type 0 → Type 0
UnlessWritten (ends.WriteFault written) fact = ⊤
UnlessWritten ends.Run fact = ⊤
UnlessWritten (ends.NotRun line rule) fact = fact
UnlessWritten (ends.Malformed line) fact = fact
UnlessWritten ends.ReadFault fact = fact
UnlessWritten (ends.TooLong bytes) fact = fact
UnlessWritten ends.NoMemory fact = fact

-- The check ended so once the source was read to its end.
abbrev pub IsAfterWhole : Checked → Type 0
IsAfterWhole (ends.WriteFault written) = ⊤
IsAfterWhole ends.Run = ⊤
IsAfterWhole (ends.NotRun line rule) = ⊤
IsAfterWhole (ends.Malformed line) = ⊤
IsAfterWhole ends.ReadFault = ⊥
IsAfterWhole (ends.TooLong bytes) = ⊥
IsAfterWhole ends.NoMemory = ⊤
