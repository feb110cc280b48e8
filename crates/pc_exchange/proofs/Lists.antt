-- One of a list that is so.
use Rattle.std.proofs.Common.{inl, inr, All, Any, List, ◌++◌}
use Rattle.std.proofs.lemmas.List.Elements.{All-contains, Contains-append_cases}

-- one that is so is in front, where none behind is
pub any_front : {X : Type 0} (P : X → Type 0) (xs ys : List X) → Any P (xs ++ ys) → All (λ y. P y → ⊥) ys → Any P xs
any_front P xs ys any none =
    elim (Contains-append_cases xs ys any.1 (any.0, any.2, any.3)) [
      | inl front ↦ (front.0, any.1, front.1, front.2, any.4)
      | inr behind ↦ absurd (All-contains (λ y. P y → ⊥) ys any.1 none behind any.4)
    ]
