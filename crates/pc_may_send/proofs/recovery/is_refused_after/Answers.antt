use Rattle.std.proofs.Common.{◌≡◌, ◌↔◌, ◌+◌, ◌∷◌, true, drop, refl, inl, inr, sym, subst}
use Rattle.pc_known.proofs.Exact.{both}
use Rattle.pc_may_send.proofs.Listing.{drop_next}
use Rattle.pc_may_send.proofs.recovery.is_refused_after.Goals as goal
use Rattle.pc_may_send.specs.Listed.{IsRefusedHere}
use Rattle.pc_world.specs.Send.Recovery.{IsRefusedAfter}

pub returns-then-is_refused_here : goal.returns-then-is_refused_here
returns-then-is_refused_here c =
    let all = c.args.heard.now in
    let i = c.loop-place.place in
    let h = c.index-heard-place.result in
    let here : drop i all ≡ h ∷ drop (i + 1) all = drop_next i all h c.loop-place-test.true c.index-heard-place.is in
    let now : IsRefusedHere c.args.id c.args.epoch c.args.seq h (drop (i + 1) all) =
    subst (IsRefusedHere c.args.id c.args.epoch c.args.seq h) c.split_at.ensures.back (c.is_refused_here.ensures.0 c.if-is_refused_here.true) in
    (λ ok. c.loop-place.invariant.0 (subst (IsRefusedAfter c.args.id c.args.epoch c.args.seq) (sym here) (inl now)), λ m. refl)

pub loop-place-preserved : goal.loop-place-preserved
loop-place-preserved c =
    let all = c.args.heard.now in
    let i = c.loop-place.place in
    let h = c.index-heard-place.result in
    let P = IsRefusedAfter c.args.id c.args.epoch c.args.seq in
    let here : drop i all ≡ h ∷ drop (i + 1) all = drop_next i all h c.loop-place-test.true c.index-heard-place.is in
    let step : P (drop (i + 1) all) ↔ P (drop i all) = (
      λ later. subst P (sym here) (inr later),
      λ some. elim (subst P here some) [
        | inl now ↦
            let on : c.is_refused_here.result ≡ true = c.is_refused_here.ensures.1 (subst (IsRefusedHere c.args.id c.args.epoch c.args.seq h) (sym c.split_at.ensures.back) now) in
            let off = c.if-is_refused_here.false in
            absurd (cc (on, off))
        | inr later ↦ later
      ],
    ) in
    both step c.loop-place.invariant
