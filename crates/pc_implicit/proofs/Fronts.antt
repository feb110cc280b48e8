-- Lists that are the front of another, lists that are split at an element, and what is so of each element after those before it.
use Rattle.std.proofs.Common.{◌≡◌, List, [], ◌∷◌, ◌++◌, Contains, ◌⊎◌, inl, inr, refl, sym, ap, subst, ◌∙◌}
use Rattle.std.proofs.lemmas.List.{append_assoc, append-nil}
use Rattle.std.specs.Prelude.{⊤}
use Rattle.pc_lists.proofs.Lists.{contains_cons, contains_nil}

-- The second list begins with the first.
pub record IsFront {X : Type 0} (xs ys : List X) : Type 0 where
  pub rest : List X
  pub whole : ys ≡ xs ++ rest

-- The list is split at this element.
pub record IsSplit {X : Type 0} (xs : List X) (x : X) : Type 0 where
  pub before : List X
  pub later : List X
  pub whole : xs ≡ before ++ x ∷ later

module _ {X : Type 0} where
  pub front_same : (xs : List X) → IsFront xs xs
  front_same xs = record { rest = []; whole = sym (append-nil xs) }

  pub front_on : (xs ys zs : List X) → IsFront xs ys → IsFront ys zs → IsFront xs zs
  front_on xs ys zs a b = record { rest = a.rest ++ b.rest; whole = b.whole ∙ ap (λ l. l ++ b.rest) a.whole ∙ append_assoc xs a.rest b.rest }

  pub front_more : (xs ys : List X) → IsFront xs (xs ++ ys)
  front_more xs ys = record { rest = ys; whole = refl }

  -- an element of a list splits it
  pub split_there : (xs : List X) (x : X) → Contains xs x → IsSplit xs x
  split_there [] x there = absurd (contains_nil x there)
  split_there (y ∷ ys) x there =
      elim (contains_cons y ys x there) [
        | inl same ↦ record { before = []; later = ys; whole = ap (λ z. z ∷ ys) same }
        | inr later ↦ let s = split_there ys x later in record { before = y ∷ s.before; later = s.later; whole = ap (λ zs. y ∷ zs) s.whole }
      ]

-- Each element is so after those before it, the first of them after these.
abbrev pub EachAfter : {X : Type 0} → (List X → X → Type 0) → List X → List X → Type 0
EachAfter P front [] = ⊤
EachAfter P front (x ∷ xs) = P front x × EachAfter P (front ++ x ∷ []) xs

module _ {X : Type 0} (P : List X → X → Type 0) where
  pub each_after_push : (front xs : List X) (x : X) → EachAfter P front xs → P (front ++ xs) x → EachAfter P front (xs ++ x ∷ [])
  each_after_push front [] x each so = (subst (λ f. P f x) (append-nil front) so, tt)
  each_after_push front (y ∷ ys) x each so =
      (each.0, each_after_push (front ++ y ∷ []) ys x each.1 (subst (λ f. P f x) (sym (append_assoc front (y ∷ []) ys)) so))

  pub each_after_weaker : (Q : List X → X → Type 0) → ((front : List X) (x : X) → P front x → Q front x) → (front xs : List X) → EachAfter P front xs → EachAfter Q front xs
  each_after_weaker Q on front [] each = tt
  each_after_weaker Q on front (x ∷ xs) each = (on front x each.0, each_after_weaker Q on (front ++ x ∷ []) xs each.1)

  each_after_at : (front done : List X) (x : X) (rest : List X) → EachAfter P front (done ++ x ∷ rest) → P (front ++ done) x
  each_after_at front [] x rest each = subst (λ f. P f x) (sym (append-nil front)) each.0
  each_after_at front (y ∷ ys) x rest each = subst (λ f. P f x) (append_assoc front (y ∷ []) ys) (each_after_at (front ++ y ∷ []) ys x rest each.1)

  -- what is so of each element after those before it is so of one
  pub each_after_split : (done : List X) (x : X) (rest xs : List X) → xs ≡ done ++ x ∷ rest → EachAfter P [] xs → P done x
  each_after_split done x rest xs whole each = each_after_at [] done x rest (subst (EachAfter P []) whole each)

-- of two fronts of one list one is a front of the other
pub either_front : {X : Type 0} (xs ys vs ws : List X) → xs ++ ys ≡ vs ++ ws → IsFront xs vs ⊎ IsFront vs xs
either_front [] ys vs ws same = inl (record { rest = vs; whole = refl })
either_front (x ∷ xs) ys [] ws same = inr (record { rest = x ∷ xs; whole = refl })
either_front (x ∷ xs) ys (v ∷ vs) ws same =
    let first : x ≡ v = cc in
    let rest : xs ++ ys ≡ vs ++ ws = cc in
    elim (either_front xs ys vs ws rest) [
      | inl front ↦ inl (record { rest = front.rest; whole = λ i. sym first i ∷ front.whole i })
      | inr front ↦ inr (record { rest = front.rest; whole = λ i. first i ∷ front.whole i })
    ]

-- a list that is one longer splits at its end, or as it did before
pub ends_or_before : {X : Type 0} (xs front back : List X) (x : X) → xs ++ x ∷ [] ≡ front ++ back → (xs ++ x ∷ [] ≡ front) ⊎ ((rest : List X) × (xs ≡ front ++ rest))
ends_or_before xs [] back x split = inr (xs, refl)
ends_or_before [] (f ∷ []) back x split = let same : x ≡ f = cc in inl (ap (λ y. y ∷ []) same)
ends_or_before [] (f ∷ g ∷ front) back x split = absurd cc
ends_or_before (y ∷ xs) (f ∷ front) back x split =
    let first : y ≡ f = cc in
    let rest : xs ++ x ∷ [] ≡ front ++ back = cc in
    elim (ends_or_before xs front back x rest) [
      | inl ends ↦ inl (λ i. first i ∷ ends i)
      | inr before ↦ inr (before.0, λ i. first i ∷ before.1 i)
    ]
