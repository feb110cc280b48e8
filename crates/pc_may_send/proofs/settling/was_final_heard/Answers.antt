use Rattle.std.proofs.Common.{◌↔◌, Any, IsTrue, subst}
use Rattle.pc_known.proofs.Exact.{both}
use Rattle.pc_may_send.proofs.Narrowed.{final_about}
use Rattle.pc_may_send.proofs.settling.was_final_heard.Goals as goal
use Rattle.pc_may_send.specs.Settled.{IsFinalAbout}

pub returns : goal.returns
returns c k keeps =
    both (subst (λ hs. IsTrue c.was_final.result ↔ Any (IsFinalAbout c.args.id) hs) (c.views.ensures k keeps) c.was_final.ensures) (final_about c.args.id k.heard)
