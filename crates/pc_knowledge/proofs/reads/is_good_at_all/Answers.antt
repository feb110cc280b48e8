use Rattle.std.proofs.Common.{◌↔◌, ◌≤◌, ℕ, IsTrue, subst}
use Rattle.pc_files.proofs.Views.{good_to}
use Rattle.pc_known.proofs.Exact.{both}
use Rattle.pc_knowledge.proofs.reads.is_good_at_all.Goals as goal
use Rattle.pc_world.specs.Known.Reads.{IsGoodTo}

pub returns : goal.returns
returns c k keeps =
    let id = c.args.id in
    let r = c.args.read.now in
    both
    (subst (λ hs. IsTrue c.is_good_up_to.result ↔ ((good : ℕ) × IsGoodTo id hs r.span r.ts good × (c.args.ts ≤ good))) (c.replies.ensures k keeps) c.is_good_up_to.ensures)
    (λ g. (g.0, (good_to id k.heard r.span r.ts g.0).0 g.1, g.2), λ g. (g.0, (good_to id k.heard r.span r.ts g.0).1 g.1, g.2))
