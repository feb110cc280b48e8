use Rattle.std.proofs.Common.{arith, subst}
use Rattle.std.proofs.lemmas.Grind.{common_steps}
use Rattle.std.proofs.lemmas.List.Elements.{All-more}
use Rattle.pc_journal.specs.Fits.{FitsBareRow}
use Rattle.pc_journal.proofs.answer.print_more_told_rows.Goals as goal

pub loop-row-preserved : goal.loop-row-preserved
loop-row-preserved c = record {
  text = grind (arith, common_steps);
  spelled = All-more FitsBareRow c.args.rows.now c.loop-row.row-index c.row-item.result c.loop-row-test.true c.loop-row.invariant.spelled (subst FitsBareRow c.row-item.is c.in_ok-print_told_row.ensures.spelled);
}
