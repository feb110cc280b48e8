-- What is printed so far is a line for each of the first rows, and these have a spelling.
use Rattle.std.proofs.Common.{◌≡◌, [], ◌++◌, take, All}
use Rattle.std.specs.List.{flat_map}
use Rattle.pc_journal.specs.Side.{◌⏎◌}
use Rattle.pc_report.proofs.print.lines.Given as goal

abbrev pub invariant-loop-row : goal.invariant-loop-row
invariant-loop-row g l = record {
  text : l.out.items ≡ l.initial.out.items ++ flat_map (λ row. g.R.Row.text row ⏎ []) (take l.row-index l.rows);
  spelled : All g.R.Row.spelled (take l.row-index l.rows);
}
