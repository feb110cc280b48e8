-- Lists of messages, by their requests.
use Rattle.std.proofs.Common.{◌≡◌, Bool, true, false, cond, ◌⊎◌, inl, inr, List, [], ◌∷◌, ◌++◌, map, find, zero, suc, Some, None, refl, sym, ap, ◌∙◌, subst, arith, All, Any}
use Rattle.std.proofs.lemmas.List.Elements.{All-cons, All-head, All-nil, All-tail}
use Rattle.pc_lists.proofs.Anywhere.{any_head, any_later}
use Rattle.pc_wave.proofs.Changed.{found_all}
use Rattle.pc_wave.specs.Messages.{first_changed}
use Rattle.pc_wave.specs.Standing.{Pairwise}

-- what holds of all that a list is mapped to holds of its elements
pub all_unmapped : {X Y : Type 0} (P : Y → Type 0) (f : X → Y) (xs : List X) → All P (map f xs) → All (λ x. P (f x)) xs
all_unmapped P f [] a = All-nil (λ x. P (f x))
all_unmapped P f (x ∷ xs) a = All-cons (λ x. P (f x)) x xs (All-head P (f x) (map f xs) a) (all_unmapped P f xs (All-tail P (f x) (map f xs) a))

module _ {X : Type 0} (test : X → Bool) (change : X → X) where
  -- what a change leaves of each element is as before
  pub kept_by : {Y : Type 0} (of : X → Y) (xs : List X) → ((x : X) → of (change x) ≡ of x) → map of (first_changed test change xs) ≡ map of xs
  kept_by of [] same = refl
  kept_by of (x ∷ xs) same =
      elim (test x) as (λ b. map of (cond b (change x ∷ xs) (x ∷ first_changed test change xs)) ≡ of x ∷ map of xs)
      [ true ↦ ap (λ y. y ∷ map of xs) (same x) | false ↦ ap (λ ys. of x ∷ ys) (kept_by of xs same) ]

-- one element of one that is found
pub only_found : {X : Type 0} (test : X → Bool) (m x : X) → find test (m ∷ []) ≡ Some x → (m ≡ x) × (test m ≡ true)
only_found test m x found = by (test m) refl found
  where
    by : (b : Bool) → test m ≡ b → cond b (Some m) None ≡ Some x → (m ≡ x) × (test m ≡ true)
    by true is e = (cc, is)
    by false is e = absurd cc

module _ {X : Type 0} (P : X → Type 0) where
  pub all_behind : (xs ys : List X) → All P (xs ++ ys) → All P ys
  all_behind [] ys a = a
  all_behind (x ∷ xs) ys a = all_behind xs ys (All-tail P x (xs ++ ys) a)

  pub all_front : (xs ys : List X) → All P (xs ++ ys) → All P xs
  all_front [] ys a = All-nil P
  all_front (x ∷ xs) ys a = All-cons P x xs (All-head P x (xs ++ ys) a) (all_front xs ys (All-tail P x (xs ++ ys) a))

module _ {X : Type 0} (R : X → X → Type 0) (test : X → Bool) (change : X → X) (P Q : X → Type 0) (x : X) (now : P x → Q (change x)) (other : (y : X) → R y x ⊎ R x y → P y → Q y) where
  -- where each two differ, what holds of the one that changed and of all others holds of all
  others : (ys : List X) → All (R x) ys → All P ys → All Q ys
  others [] r a = All-nil Q
  others (z ∷ ys) r a = All-cons Q z ys (other z (inr (All-head (R x) z ys r)) (All-head P z ys a)) (others ys (All-tail (R x) z ys r) (All-tail P z ys a))

  pub all_changed : (xs : List X) → find test xs ≡ Some x → Pairwise R xs → All P xs → All Q (first_changed test change xs)
  all_changed [] found p a = absurd cc
  all_changed (y ∷ xs) found p a = by (test y) found (λ e. all_changed xs e p.1 (All-tail P y xs a))
    where
      by : (b : Bool) → cond b (Some y) (find test xs) ≡ Some x → (find test xs ≡ Some x → All Q (first_changed test change xs)) → All Q (cond b (change y ∷ xs) (y ∷ first_changed test change xs))
      by true e later =
          let same : y ≡ x = cc in
          All-cons Q (change y) xs (subst (λ z. Q (change z)) (sym same) (now (subst P same (All-head P y xs a)))) (others xs (subst (λ z. All (R z) xs) same p.0) (All-tail P y xs a))
      by false e later = All-cons Q y (first_changed test change xs) (other y (inl (found_all test (R y) xs x e p.0)) (All-head P y xs a)) (later e)

module _ {X : Type 0} (test : X → Bool) (change : X → X) (P : X → Type 0) (x : X) (none : P x → ⊥) where
  -- what does not hold of the one that changed holds of some other
  pub any_other : (xs : List X) → find test xs ≡ Some x → Any P xs → Any P (first_changed test change xs)
  any_other [] found some = absurd cc
  any_other (y ∷ xs) found (zero, z, low, is, p) = by (test y) found
    where
      by : (b : Bool) → cond b (Some y) (find test xs) ≡ Some x → Any P (cond b (change y ∷ xs) (y ∷ first_changed test change xs))
      by true e = let same : y ≡ x = cc in absurd (none (subst P (sym is ∙ same) p))
      by false e = any_head P y (first_changed test change xs) (subst P (sym is) p)
  any_other (y ∷ xs) found (suc n, z, low, is, p) = by (test y) found (λ e. any_other xs e (n, z, omega arith, is, p))
    where
      by : (b : Bool) → cond b (Some y) (find test xs) ≡ Some x → (find test xs ≡ Some x → Any P (first_changed test change xs)) → Any P (cond b (change y ∷ xs) (y ∷ first_changed test change xs))
      by true e later = any_later P (change y) xs (n, z, omega arith, is, p)
      by false e later = any_later P y (first_changed test change xs) (later e)

module _ {X : Type 0} (P Q : X → Type 0) where
  -- what holds of each by itself holds together
  pub all_with : (xs : List X) → All P xs → All Q xs → All (λ x. P x × Q x) xs
  all_with [] a b = All-nil (λ x. P x × Q x)
  all_with (x ∷ xs) a b = All-cons (λ x. P x × Q x) x xs (All-head P x xs a, All-head Q x xs b) (all_with xs (All-tail P x xs a) (All-tail Q x xs b))
