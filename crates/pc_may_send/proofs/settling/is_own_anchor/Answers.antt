use Rattle.std.proofs.Common.{◌≡◌, ◌↔◌, IsTrue, Some, subst}
use Rattle.pc_files.proofs.Views.{anchored}
use Rattle.pc_may_send.proofs.settling.is_own_anchor.Goals as goal
use Rattle.pc_world.specs.Views.{anchor_heard}

pub returns : goal.returns
returns c k keeps =
    let id = c.args.id in
    subst (λ o. IsTrue c.is_anchor.result ↔ (o ≡ Some c.args.anchor.now)) (anchored id k.heard)
    (subst (λ hs. IsTrue c.is_anchor.result ↔ (anchor_heard id hs ≡ Some c.args.anchor.now)) (c.views.ensures k keeps) c.is_anchor.ensures)
