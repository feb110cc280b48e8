-- What goes into a list at its place is in it, and all that was there stays.
use Rattle.std.proofs.Common.{◌≡◌, zero, suc, List, [], ◌∷◌, Contains, refl, subst, arith}
use Rattle.std.proofs.lemmas.List.Elements.{Contains-append_right}
use Rattle.std.specs.BTreeSet.{insert_key}
use Rattle.std.specs.Ordering.{match_ordering}
use Rattle.std.specs.declared.cmp.Ordering.{Ordering}
use Rattle.std.specs.declared.cmp.Ordering.TheVariants.{Less, Equal, Greater}

first_in : {K : Type 0} (x : K) (xs : List K) → Contains (x ∷ xs) x
first_in x xs = (0, grind arith, refl)

later_in : {K : Type 0} (x : K) (xs : List K) (y : K) → Contains xs y → Contains (x ∷ xs) y
later_in x xs y h = Contains-append_right (x ∷ []) xs y h

rest_in : {K : Type 0} (x : K) (xs ys : List K) → ((y : K) → Contains xs y → Contains ys y) → (y : K) → Contains (x ∷ xs) y → Contains (x ∷ ys) y
rest_in x xs ys more y (zero, low, is) = (0, grind arith, is)
rest_in x xs ys more y (suc n, low, is) = later_in x ys y (more y (n, grind arith, is))

module _ {K : Type 0} (cmp : K → K → Ordering) (same : (one other : K) → cmp one other ≡ Equal → one ≡ other) (key : K) where
  has_by : (first : K) (ks : List K) → Contains (insert_key cmp ks key) key → (o : Ordering) → cmp key first ≡ o
      → Contains (match_ordering o (key ∷ first ∷ ks) (first ∷ ks) (first ∷ insert_key cmp ks key)) key
  has_by first ks later Less e = first_in key (first ∷ ks)
  has_by first ks later Equal e = subst (λ k. Contains (k ∷ ks) key) (same key first e) (first_in key ks)
  has_by first ks later Greater e = later_in first (insert_key cmp ks key) key later

  -- the key is in the list
  pub inserted_has : (ks : List K) → Contains (insert_key cmp ks key) key
  inserted_has [] = first_in key []
  inserted_has (first ∷ ks) = has_by first ks (inserted_has ks) (cmp key first) refl

  keeps_by : (first : K) (ks : List K) → ((k : K) → Contains ks k → Contains (insert_key cmp ks key) k) → (o : Ordering) → (k : K) → Contains (first ∷ ks) k
      → Contains (match_ordering o (key ∷ first ∷ ks) (first ∷ ks) (first ∷ insert_key cmp ks key)) k
  keeps_by first ks later Less k h = later_in key (first ∷ ks) k h
  keeps_by first ks later Equal k h = h
  keeps_by first ks later Greater k h = rest_in first ks (insert_key cmp ks key) later k h

  -- what was there stays
  pub inserted_keeps : (ks : List K) (k : K) → Contains ks k → Contains (insert_key cmp ks key) k
  inserted_keeps [] k (n, low, is) = grind arith
  inserted_keeps (first ∷ ks) k h = keeps_by first ks (inserted_keeps ks) (cmp key first) k h
