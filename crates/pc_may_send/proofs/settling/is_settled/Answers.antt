use Rattle.std.proofs.Common.{◌↔◌, Any, IsTrue, subst}
use Rattle.pc_known.proofs.Exact.{both}
use Rattle.pc_may_send.proofs.Existing.{other_settled, own_settled}
use Rattle.pc_may_send.proofs.settling.is_settled.Goals as goal
use Rattle.pc_may_send.specs.Settled.{IsFinalAbout}
use Rattle.pc_world.specs.Send.Settling.{AllResolved}

pub returns-in-Some : goal.returns-in-Some
returns-in-Some c k keeps =
    let x = c.in-Some.t.now in
    let id = c.args.id in
    let known : IsTrue c.is_own_settled.result ↔ (Any (IsFinalAbout id) k.heard × AllResolved k.heard id x.locks) =
    subst (λ ls. IsTrue c.is_own_settled.result ↔ (Any (IsFinalAbout id) k.heard × AllResolved k.heard id ls)) c.locks.ensures (c.is_own_settled.ensures k keeps) in
    both known (own_settled k id x (c.in-Some.ensures k keeps))

pub returns-in-None : goal.returns-in-None
returns-in-None c k keeps = both (c.is_other_settled.ensures k keeps) (other_settled k c.args.id (c.in-None.ensures k keeps))
