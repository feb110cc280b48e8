use Rattle.std.proofs.Common.{◌∙◌, arith}
use Rattle.std.proofs.Math.Seq.{take-add}
use Rattle.std.proofs.KnownBytes.{Appends-trans}
use Rattle.pc_io.proofs.writing.write_all.Goals as goal

pub loop-written-preserved : goal.loop-written-preserved
loop-written-preserved g c = record {
  within = omega (arith, c.in-Ok.ensures.bound);
  sent = rw take-add (Appends-trans _ _ _ _ _ c.loop-written.invariant.sent (rw (← c.split_at.ensures.back) c.in-Ok.ensures.bytes));
  count = c.in-Ok.ensures.cause.passed ∙ c.loop-written.invariant.count;
}
