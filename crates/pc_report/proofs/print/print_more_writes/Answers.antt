use Rattle.std.proofs.Common.{take, sym, subst, arith, All}
use Rattle.std.proofs.lemmas.Grind.{common_steps}
use Rattle.std.proofs.lemmas.List.Elements.{All-push}
use Rattle.pc_report.proofs.RowLists.{take_next}
use Rattle.pc_report.specs.Spelled.{FitsLastWrite}
use Rattle.pc_report.proofs.print.print_more_writes.Goals as goal

pub loop-write-preserved : goal.loop-write-preserved
loop-write-preserved c =
    let writes = c.args.writes.now in
    let i = c.loop-write.write-index in
    record {
      text = grind (arith, common_steps);
      spelled =
          subst (All FitsLastWrite) (sym (take_next writes i c.write-item.result c.loop-write-test.true c.write-item.is))
          (All-push FitsLastWrite (take i writes) c.write-item.result c.loop-write.invariant.spelled c.in_ok-print_write.ensures.spelled);
    }
