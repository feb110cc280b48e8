-- What stands at a place of a list after a write, and at its end.
use Rattle.std.proofs.Common.{◌≡◌, ◌≢◌, ℕ, zero, suc, ◌<◌, ◌≤◌, ◌+◌, List, [], ◌∷◌, ◌++◌, length, map, take, get_or, slice_get, slice_set, Option, Some, refl, sym, ap, ◌∙◌, arith}
use Rattle.std.proofs.lemmas.Option.{slice_get_read}

module _ {X : Type 0} where
  pub same_some : (o : Option X) (x y : X) → o ≡ Some x → o ≡ Some y → x ≡ y
  same_some o x y e f = let g : Some x ≡ Some y = sym e ∙ f in cc

  pub get_set_same : (xs : List X) (i : ℕ) (x : X) → i < length xs → slice_get (slice_set xs i x) i ≡ Some x
  get_set_same [] i x lt = absurd (omega arith)
  get_set_same (y ∷ ys) zero x lt = refl
  get_set_same (y ∷ ys) (suc i) x lt = get_set_same ys i x (omega arith)

  pub get_set_other : (xs : List X) (i j : ℕ) (x : X) → j ≢ i → slice_get (slice_set xs i x) j ≡ slice_get xs j
  get_set_other [] i j x differ = refl
  get_set_other (y ∷ ys) zero zero x differ = absurd (differ refl)
  get_set_other (y ∷ ys) zero (suc j) x differ = refl
  get_set_other (y ∷ ys) (suc i) zero x differ = refl
  get_set_other (y ∷ ys) (suc i) (suc j) x differ = get_set_other ys i j x (λ e. differ (ap suc e))

  pub set_again : (xs : List X) (i : ℕ) (x y : X) → slice_set (slice_set xs i x) i y ≡ slice_set xs i y
  set_again [] i x y = refl
  set_again (z ∷ zs) zero x y = refl
  set_again (z ∷ zs) (suc i) x y = ap (λ ys. z ∷ ys) (set_again zs i x y)

  pub set_as_was : (xs : List X) (i : ℕ) (x : X) → slice_get xs i ≡ Some x → slice_set xs i x ≡ xs
  set_as_was [] i x at = refl
  set_as_was (y ∷ ys) zero x at = let same : y ≡ x = same_some (Some y) y x refl at in ap (λ z. z ∷ ys) (sym same)
  set_as_was (y ∷ ys) (suc i) x at = ap (λ zs. y ∷ zs) (set_as_was ys i x at)

  pub get_some : (xs : List X) (i : ℕ) → i < length xs → (x : X) × (slice_get xs i ≡ Some x)
  get_some [] i lt = absurd (omega arith)
  get_some (x ∷ xs) zero lt = (x, refl)
  get_some (x ∷ xs) (suc i) lt = get_some xs i (omega arith)

  pub get_read : (xs : List X) (i : ℕ) (x : X) → i < length xs → x ≡ get_or xs i x → slice_get xs i ≡ Some x
  get_read xs i x within is = slice_get_read xs (length xs) i x refl within is

  pub no_end : (xs : List X) (x : X) → xs ++ x ∷ [] ≡ [] → ⊥
  no_end [] x e = cc
  no_end (y ∷ xs) x e = cc

  -- the ends of lists that are the same
  pub same_end : (xs ys : List X) (x y : X) → xs ++ x ∷ [] ≡ ys ++ y ∷ [] → x ≡ y
  same_end [] [] x y e = cc
  same_end [] (b ∷ []) x y e = absurd cc
  same_end [] (b ∷ c ∷ ys) x y e = absurd cc
  same_end (a ∷ []) [] x y e = absurd cc
  same_end (a ∷ b ∷ xs) [] x y e = absurd cc
  same_end (a ∷ xs) (b ∷ ys) x y e = let rest : xs ++ x ∷ [] ≡ ys ++ y ∷ [] = cc in same_end xs ys x y rest

  -- a list that is not empty has an end
  pub end_of : (xs : List X) → 0 < length xs → (front : List X) × (x : X) × (xs ≡ front ++ x ∷ [])
  end_of [] lt = absurd (omega arith)
  end_of (x ∷ []) lt = ([], x, refl)
  end_of (x ∷ y ∷ ys) lt = let r = end_of (y ∷ ys) (omega arith) in (x ∷ r.0, r.1, ap (λ zs. x ∷ zs) r.2)

  pub none_of : (xs : List X) → length xs ≡ 0 → xs ≡ []
  none_of [] is = refl
  none_of (x ∷ xs) is = absurd (omega arith)

  pub take-all : (i : ℕ) (xs : List X) → length xs ≤ i → take i xs ≡ xs
  take-all zero [] le = refl
  take-all zero (x ∷ xs) le = absurd (omega arith)
  take-all (suc i) [] le = refl
  take-all (suc i) (x ∷ xs) le = ap (λ ys. x ∷ ys) (take-all i xs (omega arith))

  -- two lists, of which one is changed
  pub set_front : (xs ys : List X) (i : ℕ) (x : X) → i < length xs → slice_set (xs ++ ys) i x ≡ slice_set xs i x ++ ys
  set_front [] ys i x lt = absurd (omega arith)
  set_front (z ∷ zs) ys zero x lt = refl
  set_front (z ∷ zs) ys (suc i) x lt = ap (λ l. z ∷ l) (set_front zs ys i x (omega arith))

  pub set_behind : (xs ys : List X) (n i : ℕ) (x : X) → n ≡ length xs + i → slice_set (xs ++ ys) n x ≡ xs ++ slice_set ys i x
  set_behind [] ys n i x is = let here : n ≡ i = omega arith in ap (λ m. slice_set ys m x) here
  set_behind (z ∷ zs) ys zero i x is = absurd (omega arith)
  set_behind (z ∷ zs) ys (suc n) i x is = ap (λ l. z ∷ l) (set_behind zs ys n i x (omega arith))

  pub get_front : (xs ys : List X) (i : ℕ) → i < length xs → slice_get (xs ++ ys) i ≡ slice_get xs i
  get_front [] ys i lt = absurd (omega arith)
  get_front (z ∷ zs) ys zero lt = refl
  get_front (z ∷ zs) ys (suc i) lt = get_front zs ys i (omega arith)

  pub get_behind : (xs ys : List X) (n i : ℕ) → n ≡ length xs + i → slice_get (xs ++ ys) n ≡ slice_get ys i
  get_behind [] ys n i is = let here : n ≡ i = omega arith in ap (slice_get ys) here
  get_behind (z ∷ zs) ys zero i is = absurd (omega arith)
  get_behind (z ∷ zs) ys (suc n) i is = get_behind zs ys n i (omega arith)

pub get_map : {X Y : Type 0} (f : X → Y) (xs : List X) (i : ℕ) (x : X) → slice_get xs i ≡ Some x → slice_get (map f xs) i ≡ Some (f x)
get_map f [] i x at = absurd cc
get_map f (y ∷ ys) zero x at = let same : y ≡ x = same_some (Some y) y x refl at in ap (λ z. Some (f z)) same
get_map f (y ∷ ys) (suc i) x at = get_map f ys i x at

pub get_of_map : {X Y : Type 0} (f : X → Y) (xs : List X) (i : ℕ) (y : Y) → slice_get (map f xs) i ≡ Some y → (x : X) × (y ≡ f x) × (slice_get xs i ≡ Some x)
get_of_map f [] i y at = absurd cc
get_of_map f (x ∷ xs) zero y at = (x, same_some (Some (f x)) y (f x) at refl, refl)
get_of_map f (x ∷ xs) (suc i) y at = get_of_map f xs i y at
