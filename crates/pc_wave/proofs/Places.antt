-- A list whose first element of a kind was changed, by its place.
use Rattle.std.proofs.Common.{◌≡◌, ℕ, ◌<◌, ◌≤◌, Bool, List, [], ◌∷◌, length, slice_set, slice_index_or, None, Some, Option, position, refl, sym, ap, ◌∙◌, arith}
use Rattle.std.specs.List.{position_or_len}
use Rattle.std.proofs.lemmas.Grind.{common_steps}
use Rattle.pc_wave.specs.Messages.{first_changed}

module _ {X : Type 0} (test : X → Bool) (change : X → X) where
  first-place : (xs : List X) (d : X) → position_or_len test xs < length xs → slice_set xs (position_or_len test xs) (change (slice_index_or xs (position_or_len test xs) d)) ≡ first_changed test change xs
  first-place [] d h = grind arith
  first-place (x ∷ xs) d h = grind (arith, common_steps, first-place xs d)

  no-place : (xs : List X) → length xs ≤ position_or_len test xs → first_changed test change xs ≡ xs
  no-place [] h = refl
  no-place (x ∷ xs) h = grind (arith, common_steps, no-place xs)

  pub changed_at : (xs : List X) (place : ℕ) (d : X) → position test xs ≡ Some place → slice_set xs place (change (slice_index_or xs place d)) ≡ first_changed test change xs
  changed_at xs place d found = grind (arith, common_steps, first-place xs d)

  pub changed_not : (xs : List X) → position test xs ≡ None → first_changed test change xs ≡ xs
  changed_not xs none = grind (arith, common_steps, no-place xs)

  -- the element at the place of the first that passes was changed
  pub set_found : (xs ys : List X) (o : Option ℕ) (place : ℕ) (at new : X) → xs ≡ ys → o ≡ position test ys → o ≡ Some place → at ≡ slice_index_or xs place at → new ≡ change at
      → slice_set xs place new ≡ first_changed test change ys
  set_found xs ys o place at new e is some old made =
      ap (slice_set xs place) (made ∙ ap change old)
      ∙ changed_at xs place at (ap (position test) e ∙ sym is ∙ some)
      ∙ ap (first_changed test change) e

  -- nothing passes, and nothing was changed
  pub set_none : (ys : List X) (o : Option ℕ) → o ≡ position test ys → ((place : ℕ) → o ≡ Some place → ⊥) → ys ≡ first_changed test change ys
  set_none ys None is none = sym (changed_not ys (sym is))
  set_none ys (Some place) is none = absurd (none place refl)
