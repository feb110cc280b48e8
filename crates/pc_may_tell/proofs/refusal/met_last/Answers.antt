use Rattle.std.proofs.Common.{IsTrue}
use Rattle.pc_may_tell.proofs.Counted.{last_next, last_of_all, none_before}
use Rattle.pc_may_tell.proofs.refusal.met_last.Goals as goal
use Rattle.pc_proto.specs.Replies.{is_conflict_with}
use Rattle.pc_world.specs.Tell.Refusal.{IsConflictOf}
use Rattle.pc_world.specs.Known.Traffic.{Heard}

pub loop-hearing-preserved : goal.loop-hearing-preserved
loop-hearing-preserved c =
    last_next (IsConflictOf c.args.request.now) c.args.heard_now.now c.loop-hearing.hearing-index c.hearing-item.result c.is_conflict_of-met.result c.loop-hearing-test.true c.hearing-item.is c.is_conflict_of-met.ensures
    (λ (h : Heard). IsTrue (is_conflict_with c.args.holder h.reply)) c.loop-hearing.last c.is_of_holder.result c.last_after-last.result c.is_of_holder.ensures c.last_after-last.ensures c.loop-hearing.invariant

pub returns : goal.returns
returns c = last_of_all (IsConflictOf c.args.request.now) c.args.heard_now.now c.loop-hearing.hearing-index c.loop-hearing-test.false (λ (h : Heard). IsTrue (is_conflict_with c.args.holder h.reply)) c.loop-hearing.last c.loop-hearing.invariant

pub loop-hearing-init : goal.loop-hearing-init
loop-hearing-init c = none_before (IsConflictOf c.args.request.now) (λ (h : Heard). IsTrue (is_conflict_with c.args.holder h.reply)) c.args.heard_now.now
