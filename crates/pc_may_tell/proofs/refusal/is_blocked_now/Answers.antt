use Rattle.std.proofs.Common.{◌↔◌, ◌⊎◌, Any, IsTrue, subst}
use Rattle.pc_may_tell.proofs.refusal.is_blocked_now.Goals as goal
use Rattle.pc_world.specs.Send.Recovery.{was_refused}
use Rattle.pc_world.specs.Tell.Refusal.{MayBlock, MetEight}

pub returns : goal.returns
returns c k keeps =
    subst (λ hs. IsTrue c.is_blocked.result ↔ (MayBlock c.args.call.now.call × (Any (λ h. IsTrue (was_refused c.args.holder h)) hs ⊎ MetEight c.args.holder hs))) (c.heard_now.ensures k keeps) c.is_blocked.ensures
