-- What mode run writes is a run with its report.
use Rattle.std.proofs.Common.{ℕ, Bool, List, length}
use Rattle.pc_base.specs.declared.actor.ActorId.{ActorId}
use Rattle.pc_program.specs.Output.{IsOutput}
use Rattle.pc_program.specs.OutputsAreAccepted.{OutputsAreAccepted}
use Rattle.pc_verdict.proofs.Unique.{one_verdict_is_right}
use Rattle.pc_verdict.specs.declared.verdict.Verdict.TheVariants as verdicts
use Rattle.pc_verdict.specs.Verdicts.{IsRunText}
use Rattle.pc_work.specs.declared.workload.Workload.{Workload}

output_is_run : (work : Workload) (rules : ActorId → ℕ → ℕ → Bool) (text : List ℕ) → IsOutput work rules text → IsRunText text
output_is_run work rules text output = record {
  splits = work.splits;
  sessions = length work.sessions;
  recoverers = length work.recoverers;
  entries = output.entries;
  run = output.is.run;
  head_fits = output.head;
  entries_fit = output.spelled;
  report_fits = output.report_spelled;
  whole = output.whole;
}

pub outputs_are_accepted : OutputsAreAccepted
outputs_are_accepted work rules text output =
    let run = output_is_run work rules text output in
    (run, λ verdict right. one_verdict_is_right text verdict verdicts.Run right run)
