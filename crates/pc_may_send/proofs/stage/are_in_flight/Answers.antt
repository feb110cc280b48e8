use Rattle.std.proofs.Common.{refl}
use Rattle.pc_may_send.proofs.Listing.{next_listed, none_listed}
use Rattle.pc_may_send.proofs.stage.are_in_flight.Goals as goal

pub returns-in-None : goal.returns-in-None
returns-in-None c = (
  λ h. absurd cc,
  λ e. absurd (none_listed c.args.listed.now c.loop-write.rest.now c.args.writes.now c.loop-write.write-index c.write-item.result c.loop-write-test.true c.write-item.is c.loop-write.invariant
      _ c.in-None.ensures refl e),
)

pub loop-write-preserved : goal.loop-write-preserved
loop-write-preserved c =
    next_listed c.args.listed.now c.loop-write.rest.now c.args.writes.now c.loop-write.write-index c.write-item.result c.loop-write-test.true c.write-item.is c.loop-write.invariant
    _ c.in-Some.ensures c.in-Some.later.now refl
