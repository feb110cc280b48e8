use Rattle.std.proofs.Common.{◌≡◌, true, All, refl, sym, subst}
use Rattle.std.proofs.lemmas.List.{take_all}
use Rattle.std.proofs.lemmas.List.Elements.{All-contains, All-more}
use Rattle.pc_may_tell.specs.Moving.{MetEightOf}
use Rattle.pc_may_tell.proofs.refusal.some_met_eight.Goals as goal
use Rattle.pc_world.specs.Known.Traffic.{Heard}

pub returns-then-has_met_eight : goal.returns-then-has_met_eight
returns-then-has_met_eight c = (
  λ ok. (c.loop-hearing.hearing-index, c.hearing-item.result, c.loop-hearing-test.true, sym c.hearing-item.is, c.has_met_eight.ensures.0 c.if-has_met_eight.true),
  λ m. refl,
)

pub loop-hearing-preserved : goal.loop-hearing-preserved
loop-hearing-preserved c =
    let P : Heard → Type 0 = λ h. MetEightOf c.args.holder c.args.heard_now.now h.request → ⊥ in
    All-more P c.args.replies.now c.loop-hearing.hearing-index c.hearing-item.result c.loop-hearing-test.true c.loop-hearing.invariant
    (subst P c.hearing-item.is (λ m. let on : c.has_met_eight.result ≡ true = c.has_met_eight.ensures.1 m in let off = c.if-has_met_eight.false in cc (on, off)))

pub returns : goal.returns
returns c =
    let P : Heard → Type 0 = λ h. MetEightOf c.args.holder c.args.heard_now.now h.request → ⊥ in
    let none : All P c.args.replies.now = subst (All P) (take_all c.loop-hearing.hearing-index c.args.replies.now c.loop-hearing-test.false) c.loop-hearing.invariant in
    (λ h. absurd cc, λ a. absurd (All-contains P c.args.replies.now a.1 none (a.0, a.2, a.3) a.4))
