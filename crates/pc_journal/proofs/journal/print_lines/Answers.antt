use Rattle.std.proofs.Common.{arith, subst}
use Rattle.std.proofs.lemmas.Grind.{common_steps}
use Rattle.std.proofs.lemmas.List.Elements.{All-more}
use Rattle.pc_journal.specs.ToldRows.{FitsWhereBare}
use Rattle.pc_journal.proofs.journal.print_lines.Goals as goal

pub loop-entry-preserved : goal.loop-entry-preserved
loop-entry-preserved c = record {
  text = grind (arith, common_steps);
  spelled = All-more FitsWhereBare c.args.entries.now c.loop-entry.entry-index c.entry-item.result c.loop-entry-test.true c.loop-entry.invariant.spelled (subst FitsWhereBare c.entry-item.is c.in_ok-print_by.ensures.spelled);
}
