use Rattle.pc_own.proofs.Stepping.{next_read}
use Rattle.pc_own.proofs.reads.add_reads.Goals as goal

pub loop-hearing-preserved : goal.loop-hearing-preserved
loop-hearing-preserved c = record {
  told = λ k keeps.
      next_read k.sent_now c.args.heard.now c.loop-hearing.hearing-index c.hearing-item.result c.args.reads.now.items c.loop-hearing.reads.items c.tell_one.new.reads.items c.loop-hearing-test.true c.hearing-item.is (c.loop-hearing.invariant.told k keeps) (c.in_ok-tell_one.ensures.told k keeps);
  spans = λ are. c.in_ok-tell_one.ensures.spans (c.loop-hearing.invariant.spans are);
}
