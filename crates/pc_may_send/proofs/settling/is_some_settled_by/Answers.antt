use Rattle.std.proofs.Common.{◌≡◌, true, All, refl, sym, subst}
use Rattle.std.proofs.lemmas.List.{take_all}
use Rattle.std.proofs.lemmas.List.Elements.{All-contains, All-more}
use Rattle.pc_may_send.proofs.settling.is_some_settled_by.Goals as goal
use Rattle.pc_may_send.specs.Settled.{IsSettledBy}
use Rattle.pc_world.specs.Known.Traffic.{Heard}

pub returns-then-is_settled_by : goal.returns-then-is_settled_by
returns-then-is_settled_by c k keeps = (
  λ ok. (c.loop-hearing.hearing-index, c.hearing-item.result, c.loop-hearing-test.true, sym c.hearing-item.is, (c.is_settled_by.ensures k keeps).0 c.if-is_settled_by.true),
  λ m. refl,
)

pub loop-hearing-preserved : goal.loop-hearing-preserved
loop-hearing-preserved c k keeps =
    let P : Heard → Type 0 = λ h. IsSettledBy k.heard c.args.id h → ⊥ in
    All-more P c.args.replies.now c.loop-hearing.hearing-index c.hearing-item.result c.loop-hearing-test.true (c.loop-hearing.invariant k keeps)
    (subst P c.hearing-item.is (λ m. let on : c.is_settled_by.result ≡ true = (c.is_settled_by.ensures k keeps).1 m in let off = c.if-is_settled_by.false in cc (on, off)))

pub returns : goal.returns
returns c k keeps =
    let P : Heard → Type 0 = λ h. IsSettledBy k.heard c.args.id h → ⊥ in
    let none : All P c.args.replies.now = subst (All P) (take_all c.loop-hearing.hearing-index c.args.replies.now c.loop-hearing-test.false) (c.loop-hearing.invariant k keeps) in
    (λ h. absurd cc, λ a. absurd (All-contains P c.args.replies.now a.1 none (a.0, a.2, a.3) a.4))
