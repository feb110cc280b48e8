-- A list whose first element of a kind was changed, by the element that is found.
use Rattle.std.proofs.Common.{◌≡◌, Bool, true, false, cond, ◌||◌, List, [], ◌∷◌, find, None, Some, refl, sym, subst, All}
use Rattle.std.specs.List.{list_any}
use Rattle.std.proofs.lemmas.List.Elements.{All-cons, All-head, All-nil, All-tail}
use Rattle.pc_wave.specs.Messages.{first_changed}
use Rattle.pc_wave.specs.Standing.{Pairwise}

module _ {X : Type 0} (test : X → Bool) where
  -- what holds of all holds of the one that is found
  pub found_all : (P : X → Type 0) (xs : List X) (x : X) → find test xs ≡ Some x → All P xs → P x
  found_all P [] x found a = absurd cc
  found_all P (y ∷ xs) x found a = by (λ there. found_all P xs x there (All-tail P y xs a)) (test y) found
    where
      by : (find test xs ≡ Some x → P x) → (b : Bool) → cond b (Some y) (find test xs) ≡ Some x → P x
      by later true here = let same : y ≡ x = cc in subst P same (All-head P y xs a)
      by later false there = later there

  -- what is found passes the test
  pub found_passes : (xs : List X) (x : X) → find test xs ≡ Some x → test x ≡ true
  found_passes [] x found = absurd cc
  found_passes (y ∷ xs) x found = by (found_passes xs x) (test y) refl found
    where
      by : (find test xs ≡ Some x → test x ≡ true) → (b : Bool) → test y ≡ b → cond b (Some y) (find test xs) ≡ Some x → test x ≡ true
      by later true is here = let same : y ≡ x = cc in subst (λ z. test z ≡ true) same is
      by later false is there = later there

  -- where some passes, one is found
  pub found_some : (xs : List X) → list_any test xs ≡ true → (x : X) × (find test xs ≡ Some x)
  found_some [] h = absurd cc
  found_some (y ∷ xs) h = by (found_some xs) (test y) h
    where
      by : (list_any test xs ≡ true → (x : X) × (find test xs ≡ Some x)) → (b : Bool) → (b || list_any test xs) ≡ true → (x : X) × (cond b (Some y) (find test xs) ≡ Some x)
      by later true h = (y, refl)
      by later false h = later h

  -- where none is found, none passes
  pub found_none : (xs : List X) → find test xs ≡ None → All (λ x. test x ≡ false) xs
  found_none [] h = All-nil (λ x. test x ≡ false)
  found_none (y ∷ xs) h = by (found_none xs) (test y) refl h
    where
      by : (find test xs ≡ None → All (λ x. test x ≡ false) xs) → (b : Bool) → test y ≡ b → cond b (Some y) (find test xs) ≡ None → All (λ x. test x ≡ false) (y ∷ xs)
      by later true is h = absurd cc
      by later false is h = All-cons (λ x. test x ≡ false) y xs is (later h)

  pub any_none : (xs : List X) → list_any test xs ≡ false → All (λ x. test x ≡ false) xs
  any_none [] h = All-nil (λ x. test x ≡ false)
  any_none (y ∷ xs) h = by (any_none xs) (test y) refl h
    where
      by : (list_any test xs ≡ false → All (λ x. test x ≡ false) xs) → (b : Bool) → test y ≡ b → (b || list_any test xs) ≡ false → All (λ x. test x ≡ false) (y ∷ xs)
      by later true is h = absurd cc
      by later false is h = All-cons (λ x. test x ≡ false) y xs is (later h)

module _ {X : Type 0} (R : X → X → Type 0) (test : X → Bool) (change : X → X) where
  module _ (P Q : X → Type 0) where
    rest_other : (x : X) → ((y : X) → P y → R x y → Q y) → (xs : List X) → All P xs → All (R x) xs → All Q xs
    rest_other x on [] ps rs = All-nil Q
    rest_other x on (y ∷ xs) ps rs = All-cons Q y xs (on y (All-head P y xs ps) (All-head (R x) y xs rs)) (rest_other x on xs (All-tail P y xs ps) (All-tail (R x) y xs rs))

    -- the element that is found is changed, and each other one is another
    pub changed_other : (xs : List X) (x : X) → find test xs ≡ Some x → ((y : X) → P y → R y x → Q y) → ((y : X) → P y → R x y → Q y) → (P x → Q (change x)) → All P xs → Pairwise R xs → All Q (first_changed test change xs)
    changed_other [] x found before after new ps rs = All-nil Q
    changed_other (y ∷ xs) x found before after new ps rs =
        by (λ there. changed_other xs x there before after new (All-tail P y xs ps) rs.1) (test y) found
      where
        by : (find test xs ≡ Some x → All Q (first_changed test change xs)) → (b : Bool) → cond b (Some y) (find test xs) ≡ Some x → All Q (cond b (change y ∷ xs) (y ∷ first_changed test change xs))
        by later true here =
            let same : y ≡ x = cc in
            All-cons Q (change y) xs (subst (λ z. P z → Q (change z)) (sym same) new (All-head P y xs ps))
            (rest_other y (subst (λ z. (w : X) → P w → R z w → Q w) (sym same) after) xs (All-tail P y xs ps) rs.0)
        by later false there =
            All-cons Q y (first_changed test change xs) (before y (All-head P y xs ps) (found_all test (R y) xs x there rs.0)) (later there)

  module _ (first : (x y : X) → R x y → R (change x) y) (second : (x y : X) → R x y → R x (change y)) where
    all_first : (x : X) (xs : List X) → All (R x) xs → All (R (change x)) xs
    all_first x [] a = All-nil (R (change x))
    all_first x (y ∷ xs) a = All-cons (R (change x)) y xs (first x y (All-head (R x) y xs a)) (all_first x xs (All-tail (R x) y xs a))

    all_second : (x : X) (xs : List X) → All (R x) xs → All (R x) (first_changed test change xs)
    all_second x [] a = All-nil (R x)
    all_second x (y ∷ xs) a =
        elim (test y) as (λ b. All (R x) (cond b (change y ∷ xs) (y ∷ first_changed test change xs))) [
          | true ↦ All-cons (R x) (change y) xs (second x y (All-head (R x) y xs a)) (All-tail (R x) y xs a)
          | false ↦ All-cons (R x) y (first_changed test change xs) (All-head (R x) y xs a) (all_second x xs (All-tail (R x) y xs a))
        ]

    -- each two are so still, where a change keeps it
    pub pairwise_changed : (xs : List X) → Pairwise R xs → Pairwise R (first_changed test change xs)
    pairwise_changed [] rs = tt
    pairwise_changed (x ∷ xs) rs =
        elim (test x) as (λ b. Pairwise R (cond b (change x ∷ xs) (x ∷ first_changed test change xs)))
        [ true ↦ (all_first x xs rs.0, rs.1) | false ↦ (all_second x xs rs.0, pairwise_changed xs rs.1) ]
