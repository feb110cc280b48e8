use Rattle.pc_may_tell.proofs.Counted.{counted_all, counted_next}
use Rattle.pc_may_tell.proofs.refusal.moved_eight.Goals as goal
use Rattle.pc_may_tell.specs.Moving.{IsMovedNow}

pub loop-hearing-preserved : goal.loop-hearing-preserved
loop-hearing-preserved c =
    counted_next (IsMovedNow c.args.sends.now) c.args.heard_now.now c.loop-hearing.hearing-index c.hearing-item.result c.is_moved_now.result c.loop-hearing-test.true c.hearing-item.is c.is_moved_now.ensures
    c.loop-hearing.left c.left_after-left.result c.left_after-left.ensures c.loop-hearing.invariant

pub returns : goal.returns
returns c = counted_all (IsMovedNow c.args.sends.now) c.args.heard_now.now c.loop-hearing.hearing-index c.loop-hearing-test.false c.loop-hearing.left c.loop-hearing.invariant

pub loop-hearing-init : goal.loop-hearing-init
loop-hearing-init c = (λ h. h, λ h. h)
