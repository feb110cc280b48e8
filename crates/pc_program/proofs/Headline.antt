-- What the laws of runs say of the history that the program writes.
use Rattle.std.proofs.Common.{◌≡◌, ℕ, ◌+◌, ◌^◌, ◌<◌, Bool, List, arith, length, IfOk, OnOk, Ok, Err, Result, refl, sym, ap, subst, ◌∙◌}
use Rattle.pc_alone.proofs.OneAlone.{is_alone}
use Rattle.pc_alone.specs.OneSession.{IsForOneSession}
use Rattle.pc_base.specs.declared.actor.ActorId.{ActorId}
use Rattle.pc_base.specs.declared.entry.Entry.{Entry}
use Rattle.pc_implicit.proofs.OneDecision.{decisions_do_not_differ}
use Rattle.pc_implicit.proofs.Outcomes.{outcomes_are_true}
use Rattle.pc_journal.specs.Fits.{FitsKeys}
use Rattle.pc_journal.specs.FitsJournal.{FitsEntries, FitsHead}
use Rattle.pc_journal.specs.ToldRows.{AllTellBare}
use Rattle.pc_proto.specs.declared.event.Event.{Event}
use Rattle.pc_report.specs.declared.rows.Report.{Report}
use Rattle.pc_report.specs.ReportOf.{IsRunOver, report_of}
use Rattle.pc_report.specs.Spelled.{FitsReport}
use Rattle.pc_runs.specs.Follows.{FollowsWork}
use Rattle.pc_runs.specs.Runners.{head_in_work}
use Rattle.pc_serial.proofs.AloneRunsPlainly.{one_session_runs_plainly}
use Rattle.pc_serial.proofs.Legal.{is-legal, is-ordered}
use Rattle.pc_serial.specs.Plain.{RunsPlainly}
use Rattle.pc_spelling.proofs.TellsBare.{runs_tell_bare}
use Rattle.pc_work.specs.Accepted.{IsAccepted}
use Rattle.pc_work.specs.declared.workload.Workload.{Workload}
use Rattle.pc_world.specs.Local.{Head}
use Rattle.pc_world.specs.Run.{IsRun}
use Rattle.pc_program.proofs.PlainReport.{reports_plainly}
use Rattle.pc_program.specs.Output.{IsOutput, IsRunOf, output_text}

-- A run of the workload.
pub is_run_of : (work : Workload) (rules : ActorId → ℕ → ℕ → Bool) (entries : List (Entry Event)) → IsRun (head_in_work work) entries → FollowsWork work rules (head_in_work work) entries
    → IsRunOf work rules entries
is_run_of work rules entries run follows =
    let plain : IsForOneSession work → RunsPlainly (head_in_work work) entries = λ of. one_session_runs_plainly (head_in_work work) entries run (is_alone work rules (head_in_work work) entries run follows of) in
    record {
      run = run;
      follows = follows;
      decisions = decisions_do_not_differ (head_in_work work) entries run;
      outcomes = outcomes_are_true (head_in_work work) entries run;
      ordered = is-ordered (head_in_work work) entries run;
      legal = is-legal (head_in_work work) entries run;
      plain = plain;
      reported = λ of. reports_plainly (head_in_work work) entries (plain of).in_turn;
    }

-- A workload that is accepted has few splits.
pub few_over : (work : Workload) → IsAccepted work → length work.splits + 1 < 2 ^ 32
few_over work accepted = omega (arith, accepted.few_splits)

-- The head of such a workload's journal has a spelling.
head_fits : (work : Workload) → IsAccepted work → FitsKeys work.splits → FitsHead work.splits (length work.sessions) (length work.recoverers)
head_fits work accepted keys = record {
  cuts = record { keys = keys; rise = accepted.splits; count = omega (arith, accepted.few_splits) };
  first_count = omega (arith, accepted.few_sessions);
  second_count = omega (arith, accepted.few_recoverers);
}

-- The entries are a run over the workload's splits.
pub run_over : (work : Workload) (entries reported : List (Entry Event)) → IsRun (head_in_work work) entries → reported ≡ entries → IsRunOver work.splits reported
run_over work entries reported run same = record { head = head_in_work work; cut = refl; run = subst (λ es. IsRun (head_in_work work) es) (sym same) run }

-- The text of such a run and of its report is an output.
pub output_of : {V E : Type 0} (r : Result V E) (items : V → List ℕ) (work : Workload) (rules : ActorId → ℕ → ℕ → Bool) (entries reported printed : List (Entry Event)) (report : Report)
    → IsAccepted work → IsRun (head_in_work work) entries → FollowsWork work rules (head_in_work work) entries
    → reported ≡ entries → printed ≡ entries → ((head : Head) → head.splits ≡ work.splits → report ≡ report_of head reported)
    → IfOk r (λ out. items out ≡ output_text work printed report) → OnOk r (FitsKeys work.splits) → OnOk r (AllTellBare printed → FitsEntries printed) → OnOk r (FitsReport report)
    → IfOk r (λ out. IsOutput work rules (items out))
output_of (Ok out) items work rules entries reported printed report accepted run follows same_one same_two is text keys spelled fits =
    let right : report ≡ report_of (head_in_work work) entries = is (head_in_work work) refl ∙ ap (report_of (head_in_work work)) same_one in
    record {
      entries = entries;
      is = is_run_of work rules entries run follows;
      head = head_fits work accepted keys;
      spelled = subst FitsEntries same_two (spelled (subst AllTellBare (sym same_two) (runs_tell_bare (head_in_work work) entries run)));
      report_spelled = subst FitsReport right fits;
      whole = text ∙ ap (λ es. output_text work es report) same_two ∙ ap (output_text work entries) right;
    }
output_of (Err e) items work rules entries reported printed report accepted run follows same_one same_two is text keys spelled fits = tt
