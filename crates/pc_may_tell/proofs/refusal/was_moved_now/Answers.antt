use Rattle.std.proofs.Common.{◌≡◌, ◌↔◌, IsTrue, subst}
use Rattle.pc_base.specs.declared.limits.TheConstants.{MOST_REFUSALS}
use Rattle.pc_known.proofs.Exact.{both}
use Rattle.pc_may_tell.proofs.Alike.{moved_iff}
use Rattle.pc_may_tell.proofs.refusal.was_moved_now.Goals as goal
use Rattle.pc_may_tell.specs.Moving.{IsMovedNow}
use Rattle.pc_proto.specs.Replies.{status_ts}
use Rattle.pc_world.specs.Counting.{AtLeast, LastIs}

pub returns : goal.returns
returns c k keeps =
    let x = c.sends.result.now in
    both
    (subst (λ hs. IsTrue c.was_moved.result ↔ (AtLeast (IsMovedNow x) MOST_REFUSALS hs × LastIs (IsMovedNow x) (λ h. status_ts h.reply ≡ c.args.ts) hs)) (c.heard_now.ensures k keeps) c.was_moved.ensures)
    (moved_iff k x (c.sends.ensures k keeps) c.args.ts)
