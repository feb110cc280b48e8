-- What is printed so far is the first rows, a comma before each, and these have a spelling.
use Rattle.std.proofs.Common.{◌≡◌, ◌∷◌, ◌++◌, take, All}
use Rattle.std.specs.List.{flat_map}
use Rattle.pc_journal.specs.Answer.{told_row_text}
use Rattle.pc_journal.specs.Fits.{FitsBareRow}
use Rattle.pc_journal.proofs.answer.print_more_told_rows.Given as goal

abbrev pub invariant-loop-row : goal.invariant-loop-row
invariant-loop-row l = record {
  text : l.out.items ≡ l.initial.out.items ++ flat_map (λ row. 44 ∷ told_row_text row) (take l.row-index l.rows);
  spelled : All FitsBareRow (take l.row-index l.rows);
}
