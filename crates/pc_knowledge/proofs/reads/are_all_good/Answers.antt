use Rattle.std.proofs.Common.{◌≡◌, ◌≤◌, ℕ, true, All, length, refl, sym, subst}
use Rattle.std.proofs.lemmas.List.{take_all}
use Rattle.std.proofs.lemmas.List.Elements.{All-more}
use Rattle.pc_knowledge.proofs.reads.are_all_good.Goals as goal
use Rattle.pc_world.specs.Known.Reads.{IsGoodTo, Read}

pub returns-then-not-is_good_by : goal.returns-then-not-is_good_by
returns-then-not-is_good_by c k keeps =
    let P : Read → Type 0 = λ r. (good : ℕ) × IsGoodTo c.args.id k.heard r.span r.ts good × (c.args.ts ≤ good) in (
      λ h. absurd cc,
      λ (all : All P c.args.reads.now).
          let on : c.is_good_by.result ≡ true = (c.is_good_by.ensures k keeps).1 (subst P (sym c.read-item.is) (all c.loop-read.read-index c.read-item.result c.loop-read-test.true)) in
          let off = c.if-not-is_good_by.true in
          absurd (cc (on, off)),
    )

pub loop-read-preserved : goal.loop-read-preserved
loop-read-preserved c k keeps =
    let P : Read → Type 0 = λ r. (good : ℕ) × IsGoodTo c.args.id k.heard r.span r.ts good × (c.args.ts ≤ good) in
    All-more P c.args.reads.now c.loop-read.read-index c.read-item.result c.loop-read-test.true (c.loop-read.invariant k keeps)
    (subst P c.read-item.is ((c.is_good_by.ensures k keeps).0 c.if-not-is_good_by.false))

pub returns : goal.returns
returns c k keeps =
    let P : Read → Type 0 = λ r. (good : ℕ) × IsGoodTo c.args.id k.heard r.span r.ts good × (c.args.ts ≤ good) in
    let end : length c.args.reads.now ≤ c.loop-read.read-index = c.loop-read-test.false in
    (λ h. subst (All P) (take_all c.loop-read.read-index c.args.reads.now end) (c.loop-read.invariant k keeps), λ h. refl)
