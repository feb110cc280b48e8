-- Entries that `insert_entry` keeps in the order of their keys: what is found under a key, and that the order stays.
use Rattle.std.proofs.Common.{◌≡◌, Bool, true, false, not, cond, List, [], ◌∷◌, filter, find, None, Some, refl, sym, ap, ◌∙◌}
use Rattle.std.specs.BTreeMap.{insert_entry, is_at}
use Rattle.std.specs.Cmp.{IsTotalOrder}
use Rattle.std.specs.declared.cmp.Ordering.{Ordering}
use Rattle.std.specs.declared.cmp.Ordering.TheVariants.{Less, Equal, Greater}
use Rattle.std.specs.List.{AllByRecursion as Each}
use Rattle.std.specs.List.Sorted.{IsStrictlySortedBy}
use Rattle.std.specs.Map.{keys_of, lookup, remove_entry, set_value}
use Rattle.std.specs.Option.{option_map}
use Rattle.std.specs.Ordering.{is_eq, match_ordering, ordering_reverse}
use Rattle.pc_base.specs.Keyed.{at, without}

turned-equal : (o : Ordering) → is_eq (ordering_reverse o) ≡ is_eq o
turned-equal Less = refl
turned-equal Equal = refl
turned-equal Greater = refl

turned-less : (o : Ordering) → o ≡ Greater → ordering_reverse o ≡ Less
turned-less Less h = absurd cc
turned-less Equal h = absurd cc
turned-less Greater h = refl

equal-only : (o : Ordering) → is_eq o ≡ true → o ≡ Equal
equal-only Less h = absurd cc
equal-only Equal h = refl
equal-only Greater h = absurd cc

module _ {K : Type 0} {cmp : K → K → Ordering} (order : IsTotalOrder cmp) (same : K → K → Bool) (agrees : (a b : K) → is_eq (cmp a b) ≡ same a b) where
  flipped : (a b : K) → is_eq (cmp a b) ≡ same b a
  flipped a b = ap is_eq (order.antisymm a b) ∙ turned-equal (cmp b a) ∙ agrees b a

  -- what is one key is one key beside any third
  pub same_beside : (a b c : K) → same a b ≡ true → same a c ≡ same b c
  same_beside a b c h = sym (agrees a c) ∙ ap is_eq (order.congr a b c (equal-only (cmp a b) (agrees a b ∙ h))) ∙ agrees b c

module _ {K V : Type 0} {cmp : K → K → Ordering} (order : IsTotalOrder cmp) (same : K → K → Bool) (agrees : (a b : K) → is_eq (cmp a b) ≡ same a b) where
  -- std's search by the order finds what stands under the key
  pub lookup_is_at : (key : K) (es : List (K × V)) → lookup (is_at (cmp key)) es ≡ at same key es
  lookup_is_at key [] = refl
  lookup_is_at key (e ∷ es) = ap (λ b. cond b (Some e.1) (lookup (is_at (cmp key)) es)) (flipped order same agrees key e.0) ∙ by (same e.0 key) (lookup_is_at key es)
    where
      by : (b : Bool) → lookup (is_at (cmp key)) es ≡ at same key es → cond b (Some e.1) (lookup (is_at (cmp key)) es) ≡ option_map (λ (e : K × V). e.1) (cond b (Some e) (find (λ e. same e.0 key) es))
      by true rest = refl
      by false rest = rest

  -- under the key stands what was put there, and under any other what stood there
  pub at_inserted : (key k : K) (value : V) (es : List (K × V)) → at same k (insert_entry cmp es key value) ≡ cond (same key k) (Some value) (at same k es)
  at_inserted key k value [] = by (same key k)
    where
      by : (b : Bool) → option_map (λ (e : K × V). e.1) (cond b (Some (key, value)) None) ≡ cond b (Some value) None
      by true = refl
      by false = refl
  at_inserted key k value (e ∷ es) = by (cmp key e.0) refl (at_inserted key k value es)
    where
      first : (b : Bool) → option_map (λ (e : K × V). e.1) (cond b (Some (key, value)) (find (λ e. same e.0 k) (e ∷ es))) ≡ cond b (Some value) (at same k (e ∷ es))
      first true = refl
      first false = refl

      there : (b : Bool) → same e.0 k ≡ b → option_map (λ (e : K × V). e.1) (cond b (Some (e.0, value)) (find (λ e. same e.0 k) es)) ≡ cond b (Some value) (option_map (λ (e : K × V). e.1) (cond b (Some e) (find (λ e. same e.0 k) es)))
      there true is = refl
      there false is = refl

      behind : (b c : Bool) → same e.0 k ≡ b → same key k ≡ c → same e.0 key ≡ false → at same k (insert_entry cmp es key value) ≡ cond c (Some value) (at same k es)
          → option_map (λ (e : K × V). e.1) (cond b (Some e) (find (λ e. same e.0 k) (insert_entry cmp es key value))) ≡ cond c (Some value) (option_map (λ (e : K × V). e.1) (cond b (Some e) (find (λ e. same e.0 k) es)))
      behind true true one two apart rest =
          let swapped : same k e.0 ≡ same e.0 k = sym (agrees k e.0) ∙ flipped order same agrees k e.0 in
          let meets : same k key ≡ true = sym (agrees k key) ∙ flipped order same agrees k key ∙ two in
          let is : same e.0 key ≡ true = same_beside order same agrees e.0 k key one ∙ meets in
          absurd cc
      behind true false one two apart rest = refl
      behind false c one two apart rest = rest

      by : (o : Ordering) → cmp key e.0 ≡ o → at same k (insert_entry cmp es key value) ≡ cond (same key k) (Some value) (at same k es) → at same k (match_ordering o ((key, value) ∷ e ∷ es) ((e.0, value) ∷ es) (e ∷ insert_entry cmp es key value)) ≡ cond (same key k) (Some value) (at same k (e ∷ es))
      by Less is rest = first (same key k)
      by Equal is rest =
          there (same e.0 k) refl
          ∙ ap (λ b. cond b (Some value) (at same k (e ∷ es))) (sym (same_beside order same agrees key e.0 k (sym (agrees key e.0) ∙ ap is_eq is)))
      by Greater is rest = behind (same e.0 k) (same key k) refl refl (sym (flipped order same agrees key e.0) ∙ ap is_eq is) rest

  -- nothing stands under a key that was taken away, and under any other what stood there
  pub at_left : (key k : K) (es : List (K × V)) → at same k (without same key es) ≡ cond (same key k) None (at same k es)
  at_left key k [] = by (same key k)
    where
      by : (b : Bool) → option_map (λ (e : K × V). e.1) None ≡ cond b None (option_map (λ (e : K × V). e.1) None)
      by true = refl
      by false = refl
  at_left key k (e ∷ es) = by (same e.0 key) (same e.0 k) (same key k) refl refl refl (at_left key k es)
    where
      by : (a b c : Bool) → same e.0 key ≡ a → same e.0 k ≡ b → same key k ≡ c → at same k (without same key es) ≡ cond c None (at same k es)
          → at same k (cond (not a) (e ∷ without same key es) (without same key es)) ≡ cond c None (option_map (λ (e : K × V). e.1) (cond b (Some e) (find (λ e. same e.0 k) es)))
      by true b true one two three rest = rest
      by true true false one two three rest = let is : same key k ≡ true = sym (same_beside order same agrees e.0 key k one) ∙ two in absurd cc
      by true false false one two three rest = rest
      by false true true one two three rest =
          let is : same e.0 key ≡ true = same_beside order same agrees e.0 k key two ∙ (sym (agrees k key) ∙ flipped order same agrees k key ∙ three) in
          absurd cc
      by false true false one two three rest = ap (λ b. option_map (λ (e : K × V). e.1) (cond b (Some e) (find (λ e. same e.0 k) (without same key es)))) two
      by false false c one two three rest = ap (λ b. option_map (λ (e : K × V). e.1) (cond b (Some e) (find (λ e. same e.0 k) (without same key es)))) two ∙ rest

  -- a key that stands before each is not found
  below-absent : (key : K) (es : List (K × V)) → Each (λ e. same e.0 key ≡ false) es → without same key es ≡ es
  below-absent key [] a = refl
  below-absent key (e ∷ es) a = ap (λ b. cond (not b) (e ∷ without same key es) (without same key es)) a.0 ∙ ap (λ rest. e ∷ rest) (below-absent key es a.1)

  apart-of : (key : K) (e : K × V) (es : List (K × V)) → same e.0 key ≡ true → Each (λ k. cmp e.0 k ≡ Less) (keys_of es) → Each (λ e. same e.0 key ≡ false) es
  apart-of key e [] is a = tt
  apart-of key e (f ∷ fs) is a = (
    let apart : same e.0 f.0 ≡ false = sym (agrees e.0 f.0) ∙ ap is_eq a.0 in
        sym (agrees f.0 key) ∙ flipped order same agrees f.0 key ∙ sym (same_beside order same agrees e.0 key f.0 is) ∙ apart,
    apart-of key e fs is a.1,
  )

  -- where keys rise, the one entry under a key is all that stands there
  pub removed_is_without : (key : K) (es : List (K × V)) → IsStrictlySortedBy cmp (keys_of es) → remove_entry (is_at (cmp key)) es ≡ without same key es
  unfolding IsStrictlySortedBy
  removed_is_without key [] sorted = refl
  removed_is_without key (e ∷ es) sorted = ap (λ b. cond b es (e ∷ remove_entry (is_at (cmp key)) es)) (flipped order same agrees key e.0) ∙ by (same e.0 key) refl (removed_is_without key es sorted.1)
    where
      by : (b : Bool) → same e.0 key ≡ b → remove_entry (is_at (cmp key)) es ≡ without same key es → cond b es (e ∷ remove_entry (is_at (cmp key)) es) ≡ cond (not b) (e ∷ without same key es) (without same key es)
      by true is rest = sym (below-absent key es (apart-of key e es is sorted.0))
      by false is rest = ap (λ rest. e ∷ rest) rest

  -- a value written where one stood is one put there
  pub written_is_inserted : (key : K) (old new : V) (es : List (K × V)) → IsStrictlySortedBy cmp (keys_of es) → lookup (is_at (cmp key)) es ≡ Some old → set_value (is_at (cmp key)) es new ≡ insert_entry cmp es key new
  unfolding IsStrictlySortedBy
  written_is_inserted key old new [] sorted there = absurd cc
  written_is_inserted key old new (e ∷ es) sorted there = by (cmp key e.0) refl there (λ later. written_is_inserted key old new es sorted.1 later)
    where
      missed : (o : Ordering) (f : K × V) (fs : List (K × V)) → cmp key e.0 ≡ Less → Each (λ k. cmp e.0 k ≡ Less) (keys_of fs) → lookup (is_at (cmp key)) fs ≡ None
      missed o f [] below a = refl
      missed o f (g ∷ gs) below a = ap (λ o. cond (is_eq o) (Some g.1) (lookup (is_at (cmp key)) gs)) (order.trans key e.0 g.0 below a.0) ∙ missed o f gs below a.1

      by : (o : Ordering) → cmp key e.0 ≡ o → cond (is_eq o) (Some e.1) (lookup (is_at (cmp key)) es) ≡ Some old
          → (lookup (is_at (cmp key)) es ≡ Some old → set_value (is_at (cmp key)) es new ≡ insert_entry cmp es key new)
          → cond (is_eq o) ((e.0, new) ∷ es) (e ∷ set_value (is_at (cmp key)) es new) ≡ match_ordering o ((key, new) ∷ e ∷ es) ((e.0, new) ∷ es) (e ∷ insert_entry cmp es key new)
      by Less is there rest = let none : lookup (is_at (cmp key)) es ≡ None = missed Less e es is sorted.0 in absurd (let both = sym none ∙ there in cc)
      by Equal is there rest = refl
      by Greater is there rest = ap (λ rest. e ∷ rest) (rest there)

module _ {K : Type 0} {cmp : K → K → Ordering} (order : IsTotalOrder cmp) where
  -- what is below a key is below all that are above it
  pub below_all : (key middle : K) (ks : List K) → cmp key middle ≡ Less → Each (λ k. cmp middle k ≡ Less) ks → Each (λ k. cmp key k ≡ Less) ks
  below_all key middle [] below a = tt
  below_all key middle (k ∷ ks) below a = (order.trans key middle k below a.0, below_all key middle ks below a.1)

module _ {K V : Type 0} {cmp : K → K → Ordering} (order : IsTotalOrder cmp) where
  keys-inserted : (P : K → Type 0) (key : K) (value : V) (es : List (K × V)) → P key → Each P (keys_of es) → Each P (keys_of (insert_entry cmp es key value))
  keys-inserted P key value [] h a = (h, tt)
  keys-inserted P key value (e ∷ es) h a = by (cmp key e.0) (keys-inserted P key value es h a.1)
    where
      by : (o : Ordering) → Each P (keys_of (insert_entry cmp es key value)) → Each P (keys_of (match_ordering o ((key, value) ∷ e ∷ es) ((e.0, value) ∷ es) (e ∷ insert_entry cmp es key value)))
      by Less rest = (h, a)
      by Equal rest = a
      by Greater rest = (a.0, rest)

  -- keys still rise after a value was put under one
  pub sorted_inserted : (key : K) (value : V) (es : List (K × V)) → IsStrictlySortedBy cmp (keys_of es) → IsStrictlySortedBy cmp (keys_of (insert_entry cmp es key value))
  unfolding IsStrictlySortedBy
  sorted_inserted key value [] sorted = (tt, tt)
  sorted_inserted key value (e ∷ es) sorted = by (cmp key e.0) refl (sorted_inserted key value es sorted.1)
    where
      by : (o : Ordering) → cmp key e.0 ≡ o → IsStrictlySortedBy cmp (keys_of (insert_entry cmp es key value))
          → IsStrictlySortedBy cmp (keys_of (match_ordering o ((key, value) ∷ e ∷ es) ((e.0, value) ∷ es) (e ∷ insert_entry cmp es key value)))
      by Less is rest = ((is, below_all order key e.0 (keys_of es) is sorted.0), sorted)
      by Equal is rest = sorted
      by Greater is rest = (keys-inserted (λ k. cmp e.0 k ≡ Less) key value es (order.antisymm e.0 key ∙ turned-less (cmp key e.0) is) sorted.0, rest)

  keys-left : (P : K → Type 0) (test : K → Bool) (es : List (K × V)) → Each P (keys_of es) → Each P (keys_of (filter (λ e. test e.0) es))
  keys-left P test [] a = tt
  keys-left P test (e ∷ es) a = by (test e.0) (keys-left P test es a.1)
    where
      by : (b : Bool) → Each P (keys_of (filter (λ e. test e.0) es)) → Each P (keys_of (cond b (e ∷ filter (λ e. test e.0) es) (filter (λ e. test e.0) es)))
      by true rest = (a.0, rest)
      by false rest = rest

  -- and after some were taken away
  pub sorted_left : (test : K → Bool) (es : List (K × V)) → IsStrictlySortedBy cmp (keys_of es) → IsStrictlySortedBy cmp (keys_of (filter (λ e. test e.0) es))
  unfolding IsStrictlySortedBy
  sorted_left test [] sorted = tt
  sorted_left test (e ∷ es) sorted = by (test e.0) (sorted_left test es sorted.1)
    where
      by : (b : Bool) → IsStrictlySortedBy cmp (keys_of (filter (λ e. test e.0) es)) → IsStrictlySortedBy cmp (keys_of (cond b (e ∷ filter (λ e. test e.0) es) (filter (λ e. test e.0) es)))
      by true rest = (keys-left (λ k. cmp e.0 k ≡ Less) test es sorted.0, rest)
      by false rest = rest
