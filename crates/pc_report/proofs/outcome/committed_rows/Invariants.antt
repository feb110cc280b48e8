-- A row for each committed transaction so far.
use Rattle.std.proofs.Common.{◌≡◌, map, take}
use Rattle.pc_report.specs.Rows.{commit_row}
use Rattle.pc_report.proofs.outcome.committed_rows.Given as goal

abbrev pub invariant-loop-rank : goal.invariant-loop-rank
invariant-loop-rank l = l.rows ≡ map (commit_row l.writes) (take l.rank-index l.order)
