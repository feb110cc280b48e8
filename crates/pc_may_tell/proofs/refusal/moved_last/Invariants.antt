use Rattle.std.proofs.Common.{◌≡◌, ◌↔◌, drop}
use Rattle.pc_may_tell.proofs.Counted.{LastFrom}
use Rattle.pc_may_tell.specs.Moving.{IsMovedNow}
use Rattle.pc_proto.specs.Replies.{status_ts}
use Rattle.pc_world.specs.Counting.{LastIs}
use Rattle.pc_may_tell.proofs.refusal.moved_last.Given as goal

abbrev pub invariant-loop-hearing : goal.invariant-loop-hearing
invariant-loop-hearing l =
    LastFrom (IsMovedNow l.sends) (λ h. status_ts h.reply ≡ l.ts) l.last (drop l.hearing-index l.heard_now)
    ↔ LastIs (IsMovedNow l.sends) (λ h. status_ts h.reply ≡ l.ts) l.heard_now
