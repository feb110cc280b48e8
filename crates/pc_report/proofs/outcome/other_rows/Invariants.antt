-- A row for each of the others so far.
use Rattle.std.proofs.Common.{◌≡◌, map}
use Rattle.pc_report.specs.ReportOf.{other_row}
use Rattle.pc_report.proofs.outcome.other_rows.Given as goal

abbrev pub invariant-loop-id : goal.invariant-loop-id
invariant-loop-id l = l.rows ≡ map other_row l.yielded
