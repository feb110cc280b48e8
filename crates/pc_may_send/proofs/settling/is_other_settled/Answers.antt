use Rattle.std.proofs.Common.{◌↔◌, Any, IsTrue, subst}
use Rattle.pc_known.proofs.Exact.{both}
use Rattle.pc_may_send.proofs.Narrowed.{other_final}
use Rattle.pc_may_send.proofs.settling.is_other_settled.Goals as goal
use Rattle.pc_may_send.specs.Settled.{IsSettledBy}

pub returns : goal.returns
returns c k keeps =
    both (subst (λ hs. IsTrue c.is_some_settled_by.result ↔ Any (IsSettledBy k.heard c.args.id) hs) (c.views.ensures k keeps) (c.is_some_settled_by.ensures k keeps)) (other_final c.args.id k.heard)
