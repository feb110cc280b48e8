-- What the program writes where all goes well. Own profile.
use Rattle.std.specs.Prelude.{◌≡◌, ℕ, Bool, List, ◌++◌, length}
use Rattle.pc_alone.specs.OneSession.{IsForOneSession}
use Rattle.pc_base.specs.declared.actor.ActorId.{ActorId}
use Rattle.pc_base.specs.declared.entry.Entry.{Entry}
use Rattle.pc_implicit.specs.Outcomes.{HasTrueOutcomes}
use Rattle.pc_journal.specs.FitsJournal.{FitsEntries, FitsHead}
use Rattle.pc_journal.specs.Journal.{journal_text}
use Rattle.pc_proto.specs.declared.event.Event.{Event}
use Rattle.pc_report.specs.declared.rows.Report.{Report}
use Rattle.pc_report.specs.Report.{report_text}
use Rattle.pc_report.specs.ReportOf.{report_of}
use Rattle.pc_report.specs.Spelled.{FitsReport}
use Rattle.pc_runs.specs.Follows.{FollowsWork}
use Rattle.pc_runs.specs.Runners.{head_in_work}
use Rattle.pc_serial.specs.Laws.{OrdersCommits}
use Rattle.pc_serial.specs.Plain.{RunsPlainly}
use Rattle.pc_work.specs.declared.workload.Workload.{Workload}
use Rattle.pc_world.specs.Decisions.{HasOneDecision}
use Rattle.pc_world.specs.Legal.{IsLegal}
use Rattle.pc_world.specs.Run.{IsRun}
use Rattle.pc_program.specs.PlainReport.{ReportsPlainly}

-- The journal of a history under the head of this workload, and below it a report.
abbrev pub output_text : Workload → List (Entry Event) → Report → List ℕ
output_text work entries report = journal_text work.splits (length work.sessions) (length work.recoverers) entries ++ report_text report

-- The history is the run that the workload asks for, where these are the rules of the clocks that were handed in: a run of the protocol
-- that follows the workload, in its turns or on threads. In it no two decisions differ, what is aborted or told to be over commits nowhere,
-- each committed transaction stands in the commit order once, and in that order they are one legal history of a map. One session without turns
-- and pipelining is told plain answers alone, the plain map runs what it committed, and the report is what the plain map holds after that.
pub record IsRunOf (work : Workload) (rules : ActorId → ℕ → ℕ → Bool) (entries : List (Entry Event)) : Type 0 where
  pub run : IsRun (head_in_work work) entries
  pub follows : FollowsWork work rules (head_in_work work) entries
  pub decisions : HasOneDecision (head_in_work work) entries
  pub outcomes : HasTrueOutcomes (head_in_work work) entries
  pub ordered : OrdersCommits (head_in_work work) entries
  pub legal : IsLegal (head_in_work work) entries
  pub plain : IsForOneSession work → RunsPlainly (head_in_work work) entries
  pub reported : IsForOneSession work → ReportsPlainly (head_in_work work) entries

-- The text is the journal and the report of one such history. Its head, the history and the report have a spelling, so that it is the journal of no other.
pub record IsOutput (work : Workload) (rules : ActorId → ℕ → ℕ → Bool) (text : List ℕ) : Type 0 where
  pub entries : List (Entry Event)
  pub is : IsRunOf work rules entries
  pub head : FitsHead work.splits (length work.sessions) (length work.recoverers)
  pub spelled : FitsEntries entries
  pub report_spelled : FitsReport (report_of (head_in_work work) entries)
  pub whole : text ≡ output_text work entries (report_of (head_in_work work) entries)
