-- How many elements of a list are so, and which of them comes last.
use Rattle.std.specs.Prelude.{ℕ, zero, suc, ◌⊎◌, List, [], ◌∷◌, All}

module _ {X : Type 0} (P : X → Type 0) where
  -- At least so many elements are so.
  abbrev pub AtLeast : ℕ → List X → Type 0
  AtLeast zero xs = Unit {0}
  AtLeast (suc n) [] = ⊥
  AtLeast (suc n) (x ∷ xs) = (P x × AtLeast n xs) ⊎ AtLeast (suc n) xs

  -- The last element that is so is also this.
  abbrev pub LastIs : (X → Type 0) → List X → Type 0
  LastIs Q [] = ⊥
  LastIs Q (x ∷ xs) = LastIs Q xs ⊎ (P x × Q x × All (λ y. P y → ⊥) xs)
