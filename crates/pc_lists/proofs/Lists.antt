-- Lists: what they contain, what stands at a place, sums.
use Rattle.std.proofs.Common.{◌≡◌, ℕ, zero, suc, ◌+◌, ◌<◌, Bool, true, false, cond, ◌⊎◌, inl, inr, List, [], ◌∷◌, ◌++◌, length, map, refl, ap, sym, ◌∙◌, subst, arith, filter, All, Contains, Some, None, slice_get, slice_index_or, slice_set, sum_by, find}
use Rattle.std.proofs.lemmas.List.Elements.{All-contains_itself}
use Rattle.std.proofs.lemmas.List.Sums.{sum_by-cons}
use mathlib.Core.Option as found
use lib.ListN.{get_elem?}

module _ {X : Type 0} where
  pub contains_head : (x : X) (xs : List X) → Contains (x ∷ xs) x
  contains_head x xs = (0, omega arith, refl)

  pub contains_tail : (x : X) (xs : List X) (a : X) → Contains xs a → Contains (x ∷ xs) a
  contains_tail x xs a c = let lt : c.0 < length xs = c.1 in (suc c.0, omega arith, c.2)

  contains_cons_at : (x : X) (xs : List X) (a : X) (k : ℕ) → k < length (x ∷ xs) → slice_index_or (x ∷ xs) k a ≡ a → (x ≡ a) ⊎ Contains xs a
  contains_cons_at x xs a zero lt is = inl is
  contains_cons_at x xs a (suc k) lt is = inr (k, omega arith, is)

  pub contains_cons : (x : X) (xs : List X) (a : X) → Contains (x ∷ xs) a → (x ≡ a) ⊎ Contains xs a
  contains_cons x xs a c = contains_cons_at x xs a c.0 c.1 c.2

  pub contains_nil : (a : X) → Contains [] a → ⊥
  contains_nil a c = let lt : c.0 < 0 = c.1 in omega arith

  pub all_from_contains : (P : X → Type 0) (xs : List X) → ((x : X) → Contains xs x → P x) → All P xs
  all_from_contains P xs h = (λ k d lt. h (slice_index_or xs k d) (All-contains_itself xs k d lt))

  pub get_contains : (xs : List X) (i : ℕ) (a : X) → slice_get xs i ≡ Some a → Contains xs a
  get_contains [] i a h = absurd cc
  get_contains (x ∷ xs) zero a h = let same : x ≡ a = cc h in subst (λ z. Contains (x ∷ xs) z) same (contains_head x xs)
  get_contains (x ∷ xs) (suc i) a h = contains_tail x xs a (get_contains xs i a h)

  pub contains_get : (xs : List X) (a : X) → Contains xs a → (i : ℕ) × (slice_get xs i ≡ Some a)
  contains_get [] a c = absurd (contains_nil a c)
  contains_get (x ∷ xs) a c =
      elim (contains_cons x xs a c) [ inl same ↦ (0, ap Some same) | inr later ↦ let r = contains_get xs a later in (suc r.0, r.1) ]

  pub get_append : (xs ys : List X) (i : ℕ) (a : X) → slice_get xs i ≡ Some a → slice_get (xs ++ ys) i ≡ Some a
  get_append [] ys i a h = absurd cc
  get_append (x ∷ xs) ys zero a h = h
  get_append (x ∷ xs) ys (suc i) a h = get_append xs ys i a h

  pub get_push : (xs : List X) (x : X) → slice_get (xs ++ x ∷ []) (length xs) ≡ Some x
  get_push [] x = refl
  get_push (y ∷ xs) x = get_push xs x

  pub get_push_cases : (xs : List X) (x : X) (i : ℕ) (a : X) → slice_get (xs ++ x ∷ []) i ≡ Some a → (slice_get xs i ≡ Some a) ⊎ ((i ≡ length xs) × (x ≡ a))
  get_push_cases [] x zero a h = inr (refl, cc h)
  get_push_cases [] x (suc i) a h = absurd cc
  get_push_cases (y ∷ xs) x zero a h = inl h
  get_push_cases (y ∷ xs) x (suc i) a h =
      elim (get_push_cases xs x i a h) [ inl e ↦ inl e | inr e ↦ inr (ap suc e.0, e.1) ]

  pub find_none : (p : X → Bool) (xs : List X) → ((x : X) → p x ≡ false) → find p xs ≡ None
  find_none p [] h = refl
  find_none p (x ∷ xs) h = ap (λ b. cond b (Some x) (find p xs)) (h x) ∙ find_none p xs h

  -- where an element passes, the first that does is found
  pub find_some : (p : X → Bool) (xs : List X) (a : X) → Contains xs a → p a ≡ true → (y : X) × (find p xs ≡ Some y) × Contains xs y × (p y ≡ true)
  find_some p [] a c h = absurd (contains_nil a c)
  find_some p (x ∷ xs) a c h =
      let by : (b : Bool) → p x ≡ b → (y : X) × (find p (x ∷ xs) ≡ Some y) × Contains (x ∷ xs) y × (p y ≡ true) = elim [
        | true ↦ λ e. (x, ap (λ b. cond b (Some x) (find p xs)) e, contains_head x xs, e)
        | false ↦ λ e.
            let later : Contains xs a = elim (contains_cons x xs a c) [ inl same ↦ absurd (let t : p x ≡ true = subst (λ z. p z ≡ true) (sym same) h in cc (t, e)) | inr l ↦ l ] in
            let r = find_some p xs a later h in
            (r.0, ap (λ b. cond b (Some x) (find p xs)) e ∙ r.1, contains_tail x xs r.0 r.2, r.3)
      ] in by (p x) refl

  pub contains_filter : (p : X → Bool) (xs : List X) (a : X) → Contains (filter p xs) a → Contains xs a × (p a ≡ true)
  contains_filter p [] a c = absurd (contains_nil a c)
  contains_filter p (x ∷ xs) a c =
      let by : (b : Bool) → p x ≡ b → Contains (cond b (x ∷ filter p xs) (filter p xs)) a → Contains (x ∷ xs) a × (p a ≡ true) = elim [
        | true ↦ λ e d. elim (contains_cons x (filter p xs) a d) [
          | inl same ↦ (subst (λ z. Contains (x ∷ xs) z) same (contains_head x xs), subst (λ z. p z ≡ true) same e)
          | inr later ↦ let r = contains_filter p xs a later in (contains_tail x xs a r.0, r.1)
        ]
        | false ↦ λ e d. let r = contains_filter p xs a d in (contains_tail x xs a r.0, r.1)
      ] in by (p x) refl c

  pub contains_in_filter : (p : X → Bool) (xs : List X) (a : X) → Contains xs a → p a ≡ true → Contains (filter p xs) a
  contains_in_filter p [] a c h = absurd (contains_nil a c)
  contains_in_filter p (x ∷ xs) a c h =
      let by : (b : Bool) → p x ≡ b → Contains (cond b (x ∷ filter p xs) (filter p xs)) a = elim [
        | true ↦ λ e. elim (contains_cons x xs a c) [
          | inl same ↦ subst (λ z. Contains (x ∷ filter p xs) z) same (contains_head x (filter p xs))
          | inr later ↦ contains_tail x (filter p xs) a (contains_in_filter p xs a later h)
        ]
        | false ↦ λ e. elim (contains_cons x xs a c) [
          | inl same ↦ absurd (let t : p x ≡ true = subst (λ z. p z ≡ true) (sym same) h in cc (t, e))
          | inr later ↦ contains_in_filter p xs a later h
        ]
      ] in by (p x) refl

  -- a list that contains nothing is empty
  pub nothing_contained : (xs : List X) → ((x : X) → Contains xs x → ⊥) → xs ≡ []
  nothing_contained [] h = refl
  nothing_contained (x ∷ xs) h = absurd (h x (contains_head x xs))

  pub sum_set : (f : X → ℕ) (xs : List X) (i : ℕ) (v w : X) → get_elem? xs i ≡ found.some v → sum_by f (slice_set xs i w) + f v ≡ sum_by f xs + f w
  sum_set f [] i v w h = absurd (found.some-ne-none v (sym h))
  sum_set f (x ∷ xs) zero v w h =
      let same : f x ≡ f v = ap f (found.some-injective x v h) in
      omega (arith, sum_by-cons f w xs, sum_by-cons f x xs, same)
  sum_set f (x ∷ xs) (suc i) v w h = omega (arith, sum_by-cons f x (slice_set xs i w), sum_by-cons f x xs, sum_set f xs i v w h)

  pub elem_within : (xs : List X) (i : ℕ) (a : X) → get_elem? xs i ≡ found.some a → i < length xs
  elem_within [] i a h = absurd (found.some-ne-none a (sym h))
  elem_within (x ∷ xs) zero a h = omega arith
  elem_within (x ∷ xs) (suc i) a h = omega (arith, elem_within xs i a h)

  -- what stands in a list that is one longer
  pub elem_push : (xs : List X) (x : X) (i : ℕ) (a : X) → get_elem? (xs ++ x ∷ []) i ≡ found.some a → (get_elem? xs i ≡ found.some a) ⊎ ((i ≡ length xs) × (x ≡ a))
  elem_push [] x zero a h = inr (refl, found.some-injective x a h)
  elem_push [] x (suc i) a h = absurd (found.some-ne-none a (sym h))
  elem_push (y ∷ xs) x zero a h = inl h
  elem_push (y ∷ xs) x (suc i) a h = elim (elem_push xs x i a h) [ inl e ↦ inl e | inr e ↦ inr (ap suc e.0, e.1) ]

  pub length_set : (xs : List X) (i : ℕ) (w : X) → length (slice_set xs i w) ≡ length xs
  length_set [] i w = refl
  length_set (x ∷ xs) zero w = refl
  length_set (x ∷ xs) (suc i) w = ap suc (length_set xs i w)

module _ {X Y : Type 0} where
  pub contains_map : (f : X → Y) (xs : List X) (a : X) → Contains xs a → Contains (map f xs) (f a)
  contains_map f [] a c = absurd (contains_nil a c)
  contains_map f (x ∷ xs) a c =
      elim (contains_cons x xs a c) [
        | inl same ↦ subst (λ z. Contains (f x ∷ map f xs) z) (ap f same) (contains_head (f x) (map f xs))
        | inr later ↦ contains_tail (f x) (map f xs) (f a) (contains_map f xs a later)
      ]

  pub contains_in_map : (f : X → Y) (xs : List X) (b : Y) → Contains (map f xs) b → (a : X) × Contains xs a × (f a ≡ b)
  contains_in_map f [] b c = absurd (contains_nil b c)
  contains_in_map f (x ∷ xs) b c =
      elim (contains_cons (f x) (map f xs) b c) [
        | inl same ↦ (x, contains_head x xs, same)
        | inr later ↦ let r = contains_in_map f xs b later in (r.0, contains_tail x xs r.0 r.1, r.2)
      ]

  pub map_same : (f g : X → Y) (xs : List X) → ((x : X) → Contains xs x → f x ≡ g x) → map f xs ≡ map g xs
  map_same f g [] h = refl
  map_same f g (x ∷ xs) h =
      ap (λ y. y ∷ map f xs) (h x (contains_head x xs)) ∙ ap (λ ys. g x ∷ ys) (map_same f g xs (λ y c. h y (contains_tail x xs y c)))
