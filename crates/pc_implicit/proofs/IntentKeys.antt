-- Entries by their keys: what is so of each, and of each two, after a value was put under a key, or nothing stands under it any more.
use Rattle.std.proofs.Common.{◌≡◌, ◌≢◌, ℕ, suc, Bool, true, false, cond, not, List, [], ◌∷◌, find, Some, refl, sym, ap, subst, ◌∙◌, All, arith}
use Rattle.std.proofs.lemmas.Cmp.{nat_list_cmp_total, tied_itself}
use Rattle.std.proofs.lemmas.List.Elements.{All-from_recursion, recursion_from_All}
use Rattle.std.proofs.lemmas.List.Kept.{AllPairs-cons}
use Rattle.std.proofs.lemmas.Map.Lookups.{exact_bytes}
use Rattle.std.specs.BTreeMap.{insert_entry}
use Rattle.std.specs.Cmp.Lexicographic.{slice_cmp}
use Rattle.std.specs.List.Sorted.{IsStrictlySortedBy}
use Rattle.std.specs.Map.{keys_of}
use Rattle.std.specs.declared.cmp.Ordering.{Ordering}
use Rattle.std.specs.declared.cmp.Ordering.TheVariants as orderings
use Rattle.std.specs.List.{AllByRecursion as Each, AllPairs}
use Rattle.std.specs.Option.{option_map}
use Rattle.std.specs.Ordering.{match_ordering, nat_cmp}
use Rattle.pc_base.specs.Keyed.{at, without}
use Rattle.pc_base.specs.Span.{same_key}
use Rattle.pc_lists.proofs.Each.{each-both}
use Rattle.pc_lists.proofs.Same.{same_key-differs, same_key-equal, same_key-is}

module _ {X : Type 0} (R : X → X → Type 0) where
  pub pairs-none : AllPairs R []
  pairs-none = λ i j d below inside. absurd (omega arith)

  pub pairs-first : (x : X) (xs : List X) → AllPairs R (x ∷ xs) → All (R x) xs
  pairs-first x xs h = λ k d inside. h 0 (suc k) d (omega arith) (omega arith)

  pub pairs-rest : (x : X) (xs : List X) → AllPairs R (x ∷ xs) → AllPairs R xs
  pairs-rest x xs h = λ i j d below inside. h (suc i) (suc j) d (omega arith) (omega arith)

module _ {V : Type 0} (P : List ℕ × V → Type 0) (key : List ℕ) where
  -- where the value may stand under the key
  pub each-laid : (value : V) (es : List (List ℕ × V)) → ((k : List ℕ) → k ≡ key → P (k, value)) → Each P es → Each P (insert_entry (slice_cmp nat_cmp) es key value)
  each-laid value [] h a = (h key refl, tt)
  each-laid value (e ∷ es) h a = by (slice_cmp nat_cmp key e.0) refl (each-laid value es h a.1)
    where
      by : (o : Ordering) → slice_cmp nat_cmp key e.0 ≡ o → Each P (insert_entry (slice_cmp nat_cmp) es key value)
          → Each P (match_ordering o ((key, value) ∷ e ∷ es) ((e.0, value) ∷ es) (e ∷ insert_entry (slice_cmp nat_cmp) es key value))
      by orderings.Less is rest = (h key refl, a)
      by orderings.Equal is rest = (h e.0 (sym (exact_bytes key e.0 is)), a.1)
      by orderings.Greater is rest = (a.0, rest)

  -- what is found under the key
  pub each-found : (value : V) (es : List (List ℕ × V)) → at same_key key es ≡ Some value → Each P es → P (key, value)
  each-found value [] there a = absurd cc
  each-found value (e ∷ es) there a = by (same_key e.0 key) refl there (λ later. each-found value es later a.1)
    where
      by : (b : Bool) → same_key e.0 key ≡ b → option_map (λ e. e.1) (cond b (Some e) (find (λ e. same_key e.0 key) es)) ≡ Some value → (at same_key key es ≡ Some value → P (key, value)) → P (key, value)
      by true is found rest =
          let same : e.1 ≡ value = cc in
          subst (λ v. P (key, v)) same (subst (λ k. P (k, e.1)) (same_key-is e.0 key is) a.0)
      by false is found rest = rest found

  -- where the value takes the place of one of which it is so
  pub each-replaced : (old new : V) (es : List (List ℕ × V)) → at same_key key es ≡ Some old → ((k : List ℕ) → P (k, old) → P (k, new)) → Each P es → Each P (insert_entry (slice_cmp nat_cmp) es key new)
  each-replaced old new es there on a = each-laid new es (λ k same. on k (subst (λ k. P (k, old)) (sym same) (each-found old es there a))) a

  -- what is left stands under other keys
  pub each-left : (Q : List ℕ × V → Type 0) → ((e : List ℕ × V) → e.0 ≢ key → P e → Q e) → (es : List (List ℕ × V)) → Each P es → Each Q (without same_key key es)
  each-left Q on [] a = tt
  each-left Q on (e ∷ es) a = by (same_key e.0 key) refl (each-left Q on es a.1)
    where
      by : (b : Bool) → same_key e.0 key ≡ b → Each Q (without same_key key es) → Each Q (cond (not b) (e ∷ without same_key key es) (without same_key key es))
      by true is rest = rest
      by false is rest = (on e (same_key-differs e.0 key is) a.0, rest)

-- The two stand under different keys.
abbrev pub Differ : {V : Type 0} → List ℕ × V → List ℕ × V → Type 0
Differ e f = e.0 ≢ f.0

apart-after : {V : Type 0} (k : List ℕ) (es : List (List ℕ × V)) → Each (λ l. slice_cmp nat_cmp k l ≡ orderings.Less) (keys_of es) → Each (λ e. k ≢ e.0) es
apart-after k [] a = tt
apart-after k (e ∷ es) a = (λ same. let itself : slice_cmp nat_cmp k e.0 ≡ orderings.Equal = subst (λ l. slice_cmp nat_cmp k l ≡ orderings.Equal) same (tied_itself nat_list_cmp_total k) in let both = sym itself ∙ a.0 in absurd cc, apart-after k es a.1)

-- keys that rise differ
pub differ-rising : {V : Type 0} (es : List (List ℕ × V)) → IsStrictlySortedBy (slice_cmp nat_cmp) (keys_of es) → AllPairs Differ es
unfolding IsStrictlySortedBy
differ-rising [] sorted = pairs-none Differ
differ-rising (e ∷ es) sorted =
    AllPairs-cons Differ e es (All-from_recursion (Differ e) es (apart-after e.0 es sorted.0)) (differ-rising es sorted.1)

module _ {V : Type 0} (key : List ℕ) where
  -- where keys differ, what stands under the key is found there
  pub differ-found : (es : List (List ℕ × V)) → AllPairs Differ es → Each (λ e. e.0 ≡ key → at same_key key es ≡ Some e.1) es
  differ-found [] h = tt
  differ-found (e ∷ es) h = (
    λ same. ap (λ b. option_map (λ (x : List ℕ × V). x.1) (cond b (Some e) (find (λ x. same_key x.0 key) es))) (same_key-equal e.0 key same),
    each-both (Differ e) (λ f. f.0 ≡ key → at same_key key es ≡ Some f.1) (λ f. f.0 ≡ key → at same_key key (e ∷ es) ≡ Some f.1)
        (λ f differ found same. by (same_key e.0 key) refl f differ found same)
        es (recursion_from_All (Differ e) es (pairs-first Differ e es h)) (differ-found es (pairs-rest Differ e es h)),
  )
    where
      by : (b : Bool) → same_key e.0 key ≡ b → (f : List ℕ × V) → Differ e f → (f.0 ≡ key → at same_key key es ≡ Some f.1) → f.0 ≡ key
          → option_map (λ (x : List ℕ × V). x.1) (cond b (Some e) (find (λ x. same_key x.0 key) es)) ≡ Some f.1
      by true is f differ found same = absurd (differ (same_key-is e.0 key is ∙ sym same))
      by false is f differ found same = found same
