use Rattle.std.proofs.Common.{◌↔◌, drop, IsTrue}
use Rattle.pc_may_tell.proofs.Counted.{LastFrom}
use Rattle.pc_proto.specs.Replies.{is_conflict_with}
use Rattle.pc_world.specs.Counting.{LastIs}
use Rattle.pc_world.specs.Tell.Refusal.{IsConflictOf}
use Rattle.pc_may_tell.proofs.refusal.met_last.Given as goal

abbrev pub invariant-loop-hearing : goal.invariant-loop-hearing
invariant-loop-hearing l =
    LastFrom (IsConflictOf l.request) (λ h. IsTrue (is_conflict_with l.holder h.reply)) l.last (drop l.hearing-index l.heard_now)
    ↔ LastIs (IsConflictOf l.request) (λ h. IsTrue (is_conflict_with l.holder h.reply)) l.heard_now
