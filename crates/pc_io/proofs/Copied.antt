-- Bytes that were copied from the front of one list over the front of another.
use Rattle.std.proofs.Common.{◌≡◌, ℕ, ◌<◌, min, List, [], ◌++◌, length, take, drop, ap, sym, ◌∙◌, arith, length-append, length-take, length-drop, take-append-drop}
use Rattle.std.proofs.Math.Seq.{take-append_seam}
use Rattle.std.proofs.lemmas.List.{nil_from_length}

-- as much as fits was taken, so none only where nothing was left or nothing fitted
pub copied_front : (left into filled : List ℕ) (count : ℕ) → count ≡ min (length left) (length into) → filled ≡ take count left ++ drop count into
    → (left ≡ take count filled ++ drop count left) × (count ≡ 0 → 0 < length filled → drop count left ≡ [])
copied_front left into filled count fits copied =
    let front = take count left in
    let taken : length front ≡ count = omega (arith, length-take count left) in
    let same : take count filled ≡ front =
    ap (take count) copied ∙ ap (λ n. take n (front ++ drop count into)) (sym taken) ∙ take-append_seam front (drop count into) in (
      sym (take-append-drop count left) ∙ ap (λ l. l ++ drop count left) (sym same),
      λ none some. nil_from_length (drop count left)
          (omega (arith, length-drop count left, length-drop count into, length-append front (drop count into), ap length copied)),
    )
