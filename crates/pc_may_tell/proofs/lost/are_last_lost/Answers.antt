use Rattle.std.proofs.Common.{◌≡◌, ◌↔◌, ◌<◌, ◌+◌, ◌-◌, ◌∷◌, true, false, if◌then◌else◌, IsTrue, not, drop, length, reverse, slice_index_or, inl, inr, sym, ap, subst, ◌∙◌, arith}
use Rattle.std.proofs.lemmas.Bool.{cases_Bool}
use Rattle.std.proofs.lemmas.List.{get_or-reverse, length-reverse}
use Rattle.pc_known.proofs.Exact.{both}
use Rattle.pc_may_tell.proofs.Alike.{lost_next, not_lost}
use Rattle.pc_may_tell.proofs.Counted.{drop_next}
use Rattle.pc_may_tell.proofs.lost.are_last_lost.Goals as goal
use Rattle.pc_world.specs.Tell.Refusal.{AreLastLost, is_heard}

pub returns-then-is_heard_yet : goal.returns-then-is_heard_yet
returns-then-is_heard_yet c k keeps =
    let xs = c.args.sent.now in
    let n = c.loop-back.back in
    let x = c.index-sent-sent.result in
    let low : n < length xs = c.loop-back-test.true in
    let there : x ≡ slice_index_or (reverse xs) n x = c.index-sent-sent.is ∙ ap (λ m. slice_index_or xs m x) (omega arith) ∙ sym (get_or-reverse xs n x low) in
    let here : drop n (reverse xs) ≡ x ∷ drop (n + 1) (reverse xs) = drop_next n (reverse xs) x (omega (arith, low, length-reverse xs)) there in
    let yet = (c.is_heard_yet.ensures k keeps).0 c.if-is_heard_yet.true in (
      λ h. absurd cc,
      λ all. absurd (not_lost k.heard c.args.message.now c.loop-back.left x (drop (n + 1) (reverse xs)) yet.0 (c.is_same_message-same.ensures.0 yet.1) yet.2
          (subst (λ ys. AreLastLost k.heard c.args.message.now ys c.loop-back.left) here ((c.loop-back.invariant k keeps).1 all))),
    )

pub loop-back-preserved : goal.loop-back-preserved
loop-back-preserved c k keeps =
    let xs = c.args.sent.now in
    let n = c.loop-back.back in
    let left = c.loop-back.left in
    let x = c.index-sent-sent.result in
    let m = c.args.message.now in
    let same = c.is_same_message-same.result in
    let low : n < length xs = c.loop-back-test.true in
    let there : x ≡ slice_index_or (reverse xs) n x = c.index-sent-sent.is ∙ ap (λ m. slice_index_or xs m x) (omega arith) ∙ sym (get_or-reverse xs n x low) in
    let here : drop n (reverse xs) ≡ x ∷ drop (n + 1) (reverse xs) = drop_next n (reverse xs) x (omega (arith, low, length-reverse xs)) there in
    let unheard : 0 < left → IsTrue same → IsTrue (not (is_heard k.heard x)) =
    λ some is. elim (cases_Bool (is_heard k.heard x)) [
      | inl heard ↦
          let on : c.is_heard_yet.result ≡ true = (c.is_heard_yet.ensures k keeps).1 (some, is, heard) in
          let off = c.if-is_heard_yet.false in
          absurd (cc (on, off))
      | inr quiet ↦ ap not quiet
    ] in
    let step : AreLastLost k.heard m (drop (n + 1) (reverse xs)) (if same then left - 1 else left) ↔ AreLastLost k.heard m (drop n (reverse xs)) left =
    subst (λ ys. AreLastLost k.heard m (drop (n + 1) (reverse xs)) (if same then left - 1 else left) ↔ AreLastLost k.heard m ys left) (sym here)
    (lost_next k.heard m left x (drop (n + 1) (reverse xs)) same c.is_same_message-same.ensures unheard) in
    let next : AreLastLost k.heard m (drop (n + 1) (reverse xs)) c.left_after-left.result ↔ AreLastLost k.heard m (drop n (reverse xs)) left =
    subst (λ l. AreLastLost k.heard m (drop (n + 1) (reverse xs)) l ↔ AreLastLost k.heard m (drop n (reverse xs)) left) (sym c.left_after-left.ensures) step in
    both next (c.loop-back.invariant k keeps)
