use Rattle.std.proofs.Common.{◌≡◌}
use Rattle.pc_may_tell.proofs.Counted.{last_next, last_of_all, none_before}
use Rattle.pc_may_tell.proofs.refusal.moved_last.Goals as goal
use Rattle.pc_may_tell.specs.Moving.{IsMovedNow}
use Rattle.pc_proto.specs.Replies.{status_ts}
use Rattle.pc_world.specs.Known.Traffic.{Heard}

pub loop-hearing-preserved : goal.loop-hearing-preserved
loop-hearing-preserved c =
    last_next (IsMovedNow c.args.sends.now) c.args.heard_now.now c.loop-hearing.hearing-index c.hearing-item.result c.is_moved_now-met.result c.loop-hearing-test.true c.hearing-item.is c.is_moved_now-met.ensures
    (λ (h : Heard). status_ts h.reply ≡ c.args.ts) c.loop-hearing.last c.is_status_at.result c.last_after-last.result c.is_status_at.ensures c.last_after-last.ensures c.loop-hearing.invariant

pub returns : goal.returns
returns c = last_of_all (IsMovedNow c.args.sends.now) c.args.heard_now.now c.loop-hearing.hearing-index c.loop-hearing-test.false (λ (h : Heard). status_ts h.reply ≡ c.args.ts) c.loop-hearing.last c.loop-hearing.invariant

pub loop-hearing-init : goal.loop-hearing-init
loop-hearing-init c = none_before (IsMovedNow c.args.sends.now) (λ (h : Heard). status_ts h.reply ≡ c.args.ts) c.args.heard_now.now
