use Rattle.std.proofs.Common.{ℕ, ◌≤◌, sym, subst, ◌∙◌}
use Rattle.pc_files.proofs.Ways.{refreshed_good}
use Rattle.pc_known.specs.Parts.{part_span}
use Rattle.pc_world.specs.Known.Reads.{AtOnce, IsGoodTo, Read}
use Rattle.pc_knowledge.proofs.reads.is_refreshed.Goals as goal

pub returns-then-is_by : goal.returns-then-is_by
returns-then-is_by c k keeps ok = (c.args.read.now.ts, AtOnce, subst (λ (r : Read). c.args.ts ≤ r.ts) c.read.view_is (c.is_by.ensures.0 c.if-is_by.true))

pub returns-else-is_by : goal.returns-else-is_by
returns-else-is_by c k keeps ok =
    subst (λ (r : Read). (good : ℕ) × IsGoodTo c.args.id k.heard r.span r.ts good × (c.args.ts ≤ good)) c.read.view_is
    (refreshed_good c.args.id (part_span c.read.inside.span) k.heard c.read.inside.ts c.args.ts (sym (c.is_refreshed.ensures k keeps) ∙ ok))
