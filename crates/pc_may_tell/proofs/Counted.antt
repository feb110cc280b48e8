-- One element of a list after the other: how many are so, and which comes last.
use Rattle.std.proofs.Common.{◌≡◌, ◌↔◌, ◌+◌, ◌-◌, ◌<◌, ◌≤◌, ◌==◌, ◌⊎◌, ℕ, zero, suc, drop, length, slice_index_or, ap, ◌∙◌, add-one, Bool, true, false, if◌then◌else◌, List, [], ◌∷◌, refl, sym, subst, inl, inr, arith, All, IsTrue}
use Rattle.std.proofs.lemmas.Bool.{eqb-true}
use Rattle.std.proofs.lemmas.List.Elements.{All-cons, All-head, All-nil, All-tail}
use Rattle.pc_known.proofs.Exact.{both}
use Rattle.pc_world.specs.Counting.{AtLeast, LastIs}

pub drop_next : {X : Type 0} (n : ℕ) (xs : List X) (x : X) → n < length xs → x ≡ slice_index_or xs n x → drop n xs ≡ x ∷ drop (n + 1) xs
drop_next {X} n xs x low is = at n xs low is ∙ ap (λ m. x ∷ drop m xs) (sym (add-one n))
  where
    at : (m : ℕ) (ys : List X) → m < length ys → x ≡ slice_index_or ys m x → drop m ys ≡ x ∷ drop (suc m) ys
    at m [] low is = absurd (omega arith)
    at zero (y ∷ ys) low is = ap (λ z. z ∷ ys) (sym is)
    at (suc m) (y ∷ ys) low is = at m ys (omega arith) is

pub drop_end : {X : Type 0} (n : ℕ) (xs : List X) → length xs ≤ n → drop n xs ≡ []
drop_end zero [] low = refl
drop_end (suc n) [] low = refl
drop_end zero (x ∷ xs) low = absurd (omega arith)
drop_end (suc n) (x ∷ xs) low = drop_end n xs (omega arith)

module _ {X : Type 0} (P : X → Type 0) where
  fewer : (n : ℕ) (xs : List X) → AtLeast P (suc n) xs → AtLeast P n xs
  fewer zero xs h = tt
  fewer (suc n) [] h = h
  fewer (suc n) (x ∷ xs) (inl h) = inr h.1
  fewer (suc n) (x ∷ xs) (inr h) = inr (fewer (suc n) xs h)

  counted-by : (n : ℕ) (x : X) (xs : List X) (met : Bool) (left : ℕ) → left ≡ (if met then n else suc n) → (IsTrue met → P x) → (P x → IsTrue met)
      → AtLeast P left xs ↔ AtLeast P (suc n) (x ∷ xs)
  counted-by n x xs true left is so sound =
      subst (λ l. AtLeast P l xs ↔ AtLeast P (suc n) (x ∷ xs)) (sym is)
      (λ a. inl (so refl, a), λ a. elim a [ inl h ↦ h.1 | inr h ↦ fewer n xs h ])
  counted-by n x xs false left is so sound =
      subst (λ l. AtLeast P l xs ↔ AtLeast P (suc n) (x ∷ xs)) (sym is)
      (λ a. inr a, λ a. elim a [ inl h ↦ absurd (let t : false ≡ true = sound h.0 in cc t) | inr h ↦ h ])

  less-by : (n : ℕ) (met : Bool) → (if met then suc n - 1 else suc n) ≡ (if met then n else suc n)
  less-by n true = omega arith
  less-by n false = refl

  -- one more element is counted
  pub counted : (left : ℕ) (x : X) (xs : List X) (met : Bool) → IsTrue met ↔ P x → AtLeast P (if met then left - 1 else left) xs ↔ AtLeast P left (x ∷ xs)
  counted zero x xs true is = (λ a. tt, λ a. tt)
  counted zero x xs false is = (λ a. tt, λ a. tt)
  counted (suc n) x xs met is = counted-by n x xs met (if met then suc n - 1 else suc n) (less-by n met) is.0 is.1

  -- none is left to count
  pub none_left : (left : ℕ) → IsTrue (left == 0) ↔ AtLeast P left []
  none_left zero = (λ h. tt, λ h. refl)
  none_left (suc n) = (λ h. absurd (omega (arith, eqb-true (suc n) 0 h)), λ h. absurd h)

  module _ (Q : X → Type 0) where
    -- The last element that is so is also this, or none is so and another before was.
    abbrev pub LastFrom : Bool → List X → Type 0
    LastFrom last xs = LastIs P Q xs ⊎ ((last ≡ true) × All (λ x. P x → ⊥) xs)

    -- one more element is looked at
    pub last_from : (last met this : Bool) (x : X) (xs : List X) → IsTrue met ↔ P x → IsTrue this ↔ Q x → LastFrom (if met then this else last) xs ↔ LastFrom last (x ∷ xs)
    last_from last true this x xs met is = (
      λ h. elim h [ inl later ↦ inl (inl later) | inr now ↦ inl (inr (met.0 refl, is.0 now.0, now.1)) ],
      λ h. elim h [
        | inl first ↦ elim first [ inl later ↦ inl later | inr now ↦ inr (is.1 now.1, now.2) ]
        | inr before ↦ absurd (All-head (λ y. P y → ⊥) x xs before.1 (met.0 refl))
      ],
    )
    last_from last false this x xs met is = (
      λ h. elim h [ inl later ↦ inl (inl later) | inr before ↦ inr (before.0, All-cons (λ y. P y → ⊥) x xs (λ p. let t : false ≡ true = met.1 p in cc t) before.1) ],
      λ h. elim h [
        | inl first ↦ elim first [ inl later ↦ inl later | inr now ↦ absurd (let t : false ≡ true = met.1 now.0 in cc t) ]
        | inr before ↦ inr (before.0, All-tail (λ y. P y → ⊥) x xs before.1)
      ],
    )

    -- before the first
    pub none_before : (xs : List X) → LastFrom false xs ↔ LastIs P Q xs
    none_before xs = (λ h. elim h [ inl later ↦ later | inr before ↦ absurd (cc before.0) ], λ h. inl h)

    -- behind the last
    pub none_after : (last : Bool) → IsTrue last ↔ LastFrom last []
    none_after last = (λ h. inr (h, All-nil (λ y. P y → ⊥)), λ h. elim h [ inl later ↦ absurd later | inr before ↦ before.0 ])

-- ---- a loop over all of them

module _ {X : Type 0} (P : X → Type 0) (all : List X) (i : ℕ) where
  module _ (x : X) (met : Bool) (here : i < length all) (is : x ≡ slice_index_or all i x) (so : IsTrue met ↔ P x) where
    -- the loop that counts them
    pub counted_next : {R : Type 0} (left after : ℕ) → after ≡ (if met then left - 1 else left) → AtLeast P left (drop i all) ↔ R → AtLeast P after (drop (i + 1) all) ↔ R
    counted_next {R} left after count so_far =
        let step : AtLeast P (if met then left - 1 else left) (drop (i + 1) all) ↔ AtLeast P left (drop i all) =
        subst (λ xs. AtLeast P (if met then left - 1 else left) (drop (i + 1) all) ↔ AtLeast P left xs) (sym (drop_next i all x here is)) (counted P left x (drop (i + 1) all) met so) in
        let next : AtLeast P after (drop (i + 1) all) ↔ AtLeast P left (drop i all) =
        subst (λ n. AtLeast P n (drop (i + 1) all) ↔ AtLeast P left (drop i all)) (sym count) step in
        both next so_far

    -- the loop that looks for the last of them
    pub last_next : (Q : X → Type 0) {R : Type 0} (last this after : Bool) → IsTrue this ↔ Q x → after ≡ (if met then this else last) → LastFrom P Q last (drop i all) ↔ R
        → LastFrom P Q after (drop (i + 1) all) ↔ R
    last_next Q {R} last this after fits find so_far =
        let step : LastFrom P Q (if met then this else last) (drop (i + 1) all) ↔ LastFrom P Q last (drop i all) =
        subst (λ xs. LastFrom P Q (if met then this else last) (drop (i + 1) all) ↔ LastFrom P Q last xs) (sym (drop_next i all x here is)) (last_from P Q last met this x (drop (i + 1) all) so fits) in
        let next : LastFrom P Q after (drop (i + 1) all) ↔ LastFrom P Q last (drop i all) =
        subst (λ b. LastFrom P Q b (drop (i + 1) all) ↔ LastFrom P Q last (drop i all)) (sym find) step in
        both next so_far

  module _ (end : length all ≤ i) where
    pub counted_all : {R : Type 0} (left : ℕ) → AtLeast P left (drop i all) ↔ R → IsTrue (left == 0) ↔ R
    counted_all left so_far = both (subst (λ xs. IsTrue (left == 0) ↔ AtLeast P left xs) (sym (drop_end i all end)) (none_left P left)) so_far

    pub last_of_all : (Q : X → Type 0) {R : Type 0} (last : Bool) → LastFrom P Q last (drop i all) ↔ R → IsTrue last ↔ R
    last_of_all Q last so_far = both (subst (λ xs. IsTrue last ↔ LastFrom P Q last xs) (sym (drop_end i all end)) (none_after P Q last)) so_far
