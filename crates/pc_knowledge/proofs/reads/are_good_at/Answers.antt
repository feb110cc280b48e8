use Rattle.std.proofs.Common.{◌≡◌, ◌≤◌, true, All, length, refl, sym, subst}
use Rattle.std.proofs.lemmas.List.{take_all}
use Rattle.std.proofs.lemmas.List.Elements.{All-more}
use Rattle.pc_knowledge.proofs.reads.are_good_at.Goals as goal
use Rattle.pc_world.specs.Known.Reads.{IsGoodAt, Read}

pub returns-then-not-is_good_at : goal.returns-then-not-is_good_at
returns-then-not-is_good_at c k keeps =
    let P : Read → Type 0 = IsGoodAt c.args.id k.heard c.args.ts in (
      λ h. absurd cc,
      λ (all : All P c.args.reads.now).
          let on : c.is_good_at.result ≡ true = (c.is_good_at.ensures k keeps).1 (subst P (sym c.read-item.is) (all c.loop-read.read-index c.read-item.result c.loop-read-test.true)) in
          let off = c.if-not-is_good_at.true in
          absurd (cc (on, off)),
    )

pub loop-read-preserved : goal.loop-read-preserved
loop-read-preserved c k keeps =
    let P : Read → Type 0 = IsGoodAt c.args.id k.heard c.args.ts in
    All-more P c.args.reads.now c.loop-read.read-index c.read-item.result c.loop-read-test.true (c.loop-read.invariant k keeps)
    (subst P c.read-item.is ((c.is_good_at.ensures k keeps).0 c.if-not-is_good_at.false))

pub returns : goal.returns
returns c k keeps =
    let P : Read → Type 0 = IsGoodAt c.args.id k.heard c.args.ts in
    let end : length c.args.reads.now ≤ c.loop-read.read-index = c.loop-read-test.false in
    (λ h. subst (All P) (take_all c.loop-read.read-index c.args.reads.now end) (c.loop-read.invariant k keeps), λ h. refl)
