-- What is run has a report.
use Rattle.std.proofs.Common.{◌≡◌, ◌+◌, ◌^◌, ◌<◌, List, arith, length, refl}
use Rattle.pc_base.specs.declared.entry.Entry.{Entry}
use Rattle.pc_proto.specs.declared.event.Event.{Event}
use Rattle.pc_report.specs.ReportOf.{IsRunOver}
use Rattle.pc_runs.specs.Runners.{head_in_work}
use Rattle.pc_work.specs.Accepted.{IsAccepted}
use Rattle.pc_work.specs.declared.workload.Workload.{Workload}
use Rattle.pc_world.specs.Run.{IsRun}

-- A workload that is accepted has few splits.
pub few_over : (work : Workload) → IsAccepted work → length work.splits + 1 < 2 ^ 32
few_over work accepted = omega (arith, accepted.few_splits)

-- A run of the workload is one over its splits.
pub run_over : (work : Workload) (entries : List (Entry Event)) → IsRun (head_in_work work) entries → IsRunOver work.splits entries
run_over work entries run = record { head = head_in_work work; cut = refl; run = run }
