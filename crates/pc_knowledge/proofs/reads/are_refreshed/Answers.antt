use Rattle.std.proofs.Common.{◌≤◌, ℕ, All, length, subst}
use Rattle.std.proofs.lemmas.List.{take_all}
use Rattle.std.proofs.lemmas.List.Elements.{All-more}
use Rattle.pc_knowledge.proofs.reads.are_refreshed.Goals as goal
use Rattle.pc_world.specs.Known.Reads.{IsGoodTo, Read}

pub loop-read-preserved : goal.loop-read-preserved
loop-read-preserved c k keeps =
    let P : Read → Type 0 = λ r. (good : ℕ) × IsGoodTo c.args.id k.heard r.span r.ts good × (c.args.ts ≤ good) in
    All-more P c.args.reads.now c.loop-read.read-index c.read-item.result c.loop-read-test.true (c.loop-read.invariant k keeps)
    (subst P c.read-item.is (c.is_refreshed.ensures k keeps c.if-not-is_refreshed.false))

pub returns : goal.returns
returns c k keeps ok =
    let P : Read → Type 0 = λ r. (good : ℕ) × IsGoodTo c.args.id k.heard r.span r.ts good × (c.args.ts ≤ good) in
    let end : length c.args.reads.now ≤ c.loop-read.read-index = c.loop-read-test.false in
    subst (All P) (take_all c.loop-read.read-index c.args.reads.now end) (c.loop-read.invariant k keeps)
