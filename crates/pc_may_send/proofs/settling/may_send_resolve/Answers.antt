use Rattle.std.proofs.Common.{◌↔◌, Any, IsTrue, subst}
use Rattle.pc_files.proofs.Views.{has_fate}
use Rattle.pc_known.proofs.Exact.{both}
use Rattle.pc_may_send.proofs.settling.may_send_resolve.Goals as goal
use Rattle.pc_world.specs.Send.Settling.{ShowsFate}

pub returns : goal.returns
returns c k keeps =
    both (subst (λ hs. IsTrue c.some_shows_fate.result ↔ Any (ShowsFate c.args.id c.args.fate) hs) (c.views.ensures k keeps) c.some_shows_fate.ensures) (has_fate c.args.id k.heard c.args.fate)
