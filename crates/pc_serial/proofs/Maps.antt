-- Look-ups in entries that rise by key: where an entry was put in or taken away, in a part of them, and that they tell all.
use Rattle.std.proofs.Common.{◌≡◌, ℕ, Bool, true, false, cond, List, [], ◌∷◌, ◌++◌, map, filter, Option, None, Some, refl, sym, ap, subst, ◌∙◌, arith}
use Rattle.std.proofs.lemmas.Cmp.{nat_list_cmp_total}
use Rattle.std.proofs.lemmas.Map.Lookups.{exact_bytes}
use Rattle.std.specs.BTreeMap.{insert_entry}
use Rattle.std.specs.Cmp.Lexicographic.{slice_cmp}
use Rattle.std.specs.declared.cmp.Ordering.{Ordering}
use Rattle.std.specs.declared.cmp.Ordering.TheVariants.{Less, Equal, Greater}
use Rattle.std.specs.List.{AllByRecursion as Each}
use Rattle.std.specs.List.Sorted.{IsStrictlySortedBy}
use Rattle.std.specs.Ordering.{is_eq, match_ordering, nat_cmp, ordering_reverse}
use Rattle.pc_base.specs.Keyed.{at, without}
use Rattle.pc_base.specs.Span.{same_key}
use Rattle.pc_lists.proofs.Each.{each-append, each-filter, each-unmap, each-weaker}
use Rattle.pc_lists.proofs.Same.{same_key-is, same_key-self}
use Rattle.pc_serial.proofs.InOrder.{Rises}

turned : (o : Ordering) → is_eq (ordering_reverse o) ≡ is_eq o
turned Less = refl
turned Equal = refl
turned Greater = refl

same-flip : (one other : List ℕ) → same_key one other ≡ is_eq (slice_cmp nat_cmp other one)
same-flip one other = ap is_eq (nat_list_cmp_total.antisymm one other) ∙ turned (slice_cmp nat_cmp other one)

-- Entries in the order of their keys, each key once.
abbrev pub RisesByKey : {V : Type 0} → List (List ℕ × V) → Type 0
RisesByKey es = Rises (slice_cmp nat_cmp) es

module _ {V : Type 0} where
  -- ---- look-ups

  pub at-insert : (k : List ℕ) (v : V) (key : List ℕ) (es : List (List ℕ × V)) → at same_key key (insert_entry (slice_cmp nat_cmp) es k v) ≡ cond (same_key k key) (Some v) (at same_key key es)
  at-insert k v key [] = grind arith
  at-insert k v key (e ∷ es) =
      let rest = at-insert k v key es in
      let by : (o : Ordering) → slice_cmp nat_cmp k e.0 ≡ o
      → at same_key key (match_ordering o ((k, v) ∷ e ∷ es) ((e.0, v) ∷ es) (e ∷ insert_entry (slice_cmp nat_cmp) es k v)) ≡ cond (same_key k key) (Some v) (at same_key key (e ∷ es)) = elim [
        | Less ↦ λ is. grind arith
        | Equal ↦ λ is. let same : k ≡ e.0 = exact_bytes k e.0 is in grind (arith, same)
        | Greater ↦ λ is. let apart : same_key k e.0 ≡ false = ap is_eq is in grind (arith, apart, rest, same_key-is e.0 key)
      ] in by (slice_cmp nat_cmp k e.0) refl

  pub at-without : (k key : List ℕ) (es : List (List ℕ × V)) → at same_key key (without same_key k es) ≡ cond (same_key k key) None (at same_key key es)
  at-without k key [] = grind arith
  at-without k key (e ∷ es) = grind (arith, at-without k key es, same_key-is e.0 key, same_key-is e.0 k, same_key-is k key)

  -- a part of the entries, chosen by their keys
  pub at-part : (test : List ℕ → Bool) (key : List ℕ) (es : List (List ℕ × V)) → at same_key key (filter (λ e. test e.0) es) ≡ cond (test key) (at same_key key es) None
  at-part test key [] = grind arith
  at-part test key (e ∷ es) = grind (arith, at-part test key es, same_key-is e.0 key)

  pub at-append : (key : List ℕ) (es fs : List (List ℕ × V)) → at same_key key es ≡ None → at same_key key (es ++ fs) ≡ at same_key key fs
  at-append key [] fs h = refl
  at-append key (e ∷ es) fs h = grind (arith, at-append key es fs)

  pub at-append-none : (key : List ℕ) (es fs : List (List ℕ × V)) → at same_key key fs ≡ None → at same_key key (es ++ fs) ≡ at same_key key es
  at-append-none key [] fs h = h
  at-append-none key (e ∷ es) fs h = grind (arith, at-append-none key es fs h)

  pub at-none : (key : List ℕ) (es : List (List ℕ × V)) → Each (λ e. same_key e.0 key ≡ false) es → at same_key key es ≡ None
  at-none key [] a = refl
  at-none key (e ∷ es) a = grind (arith, a.0, at-none key es a.1)

  -- where no key of the entries is the key
  pub at-other : (P : List ℕ → Type 0) (key : List ℕ) (es : List (List ℕ × V)) → (P key → ⊥) → Each (λ e. P e.0) es → at same_key key es ≡ None
  at-other P key es out a =
      at-none key es (each-weaker (λ (e : List ℕ × V). P e.0) (λ e. same_key e.0 key ≡ false) (λ e h. apart e (same_key e.0 key) refl h) es a)
    where
      apart : (e : List ℕ × V) (b : Bool) → same_key e.0 key ≡ b → P e.0 → same_key e.0 key ≡ false
      apart e true is h = absurd (out (subst P (same_key-is e.0 key is) h))
      apart e false is h = is

  -- ---- order

  pub sorted-rises : (es : List (List ℕ × V)) → IsStrictlySortedBy (slice_cmp nat_cmp) (map (λ e. e.0) es) → RisesByKey es
  unfolding IsStrictlySortedBy
  sorted-rises [] s = tt
  sorted-rises (e ∷ es) s = (each-unmap (λ x. slice_cmp nat_cmp e.0 x ≡ Less) (λ (f : List ℕ × V). f.0) es s.0, sorted-rises es s.1)

  pub rises-part : (test : List ℕ × V → Bool) (es : List (List ℕ × V)) → RisesByKey es → RisesByKey (filter test es)
  rises-part test [] r = tt
  rises-part test (e ∷ es) r =
      let rest = rises-part test es r.1 in
      let by : (b : Bool) → RisesByKey (cond b (e ∷ filter test es) (filter test es)) = elim [
        | true ↦ (each-filter (λ x. slice_cmp nat_cmp e.0 x.0 ≡ Less) test es r.0, rest)
        | false ↦ rest
      ] in by (test e)

  pub rises-append : (es fs : List (List ℕ × V)) → RisesByKey es → RisesByKey fs → Each (λ e. Each (λ f. slice_cmp nat_cmp e.0 f.0 ≡ Less) fs) es → RisesByKey (es ++ fs)
  rises-append [] fs r s a = s
  rises-append (e ∷ es) fs r s a = (each-append (λ x. slice_cmp nat_cmp e.0 x.0 ≡ Less) es fs r.0 a.0, rises-append es fs r.1 s a.1)

  -- ---- equal look-ups

  at-head : (e : List ℕ × V) (es : List (List ℕ × V)) → at same_key e.0 (e ∷ es) ≡ Some e.1
  at-head e es = grind (arith, same_key-self e.0)

  at-tail : (key : List ℕ) (e : List ℕ × V) (es : List (List ℕ × V)) → same_key e.0 key ≡ false → at same_key key (e ∷ es) ≡ at same_key key es
  at-tail key e es apart = grind (arith, apart)

  -- below all keys there is nothing
  pub at-below : (key : List ℕ) (es : List (List ℕ × V)) → Each (λ e. slice_cmp nat_cmp key e.0 ≡ Less) es → at same_key key es ≡ None
  at-below key es a =
      at-none key es (each-weaker (λ (e : List ℕ × V). slice_cmp nat_cmp key e.0 ≡ Less) (λ e. same_key e.0 key ≡ false) (λ e less. same-flip e.0 key ∙ ap is_eq less) es a)

  not-there : (v : V) (o : Option V) → Some v ≡ o → o ≡ None → ⊥
  not-there v o is none = let both : Some v ≡ None = is ∙ none in cc

  below-first : (key : List ℕ) (f : List ℕ × V) (fs : List (List ℕ × V)) → RisesByKey (f ∷ fs) → slice_cmp nat_cmp key f.0 ≡ Less → at same_key key (f ∷ fs) ≡ None
  below-first key f fs r less =
      at-below key (f ∷ fs) (less, each-weaker (λ (x : List ℕ × V). slice_cmp nat_cmp f.0 x.0 ≡ Less) (λ x. slice_cmp nat_cmp key x.0 ≡ Less) (λ x l. nat_list_cmp_total.trans key f.0 x.0 less l) fs r.0)

  first-keys : (e f : List ℕ × V) (es fs : List (List ℕ × V)) → RisesByKey (e ∷ es) → RisesByKey (f ∷ fs) → ((key : List ℕ) → at same_key key (e ∷ es) ≡ at same_key key (f ∷ fs)) → e.0 ≡ f.0
  first-keys e f es fs r s h =
      let by : (o : Ordering) → slice_cmp nat_cmp e.0 f.0 ≡ o → e.0 ≡ f.0 = elim [
        | Less ↦ λ is. absurd (not-there e.1 (at same_key e.0 (f ∷ fs)) (sym (at-head e es) ∙ h e.0) (below-first e.0 f fs s is))
        | Equal ↦ λ is. exact_bytes e.0 f.0 is
        | Greater ↦ λ is. absurd (
            let less : slice_cmp nat_cmp f.0 e.0 ≡ Less = nat_list_cmp_total.antisymm f.0 e.0 ∙ ap ordering_reverse is in
            not-there f.1 (at same_key f.0 (e ∷ es)) (sym (at-head f fs) ∙ sym (h f.0)) (below-first f.0 e es r less)
            )
      ] in by (slice_cmp nat_cmp e.0 f.0) refl

  first-same : (e f : List ℕ × V) (es fs : List (List ℕ × V)) → RisesByKey (e ∷ es) → RisesByKey (f ∷ fs) → ((key : List ℕ) → at same_key key (e ∷ es) ≡ at same_key key (f ∷ fs)) → e ≡ f
  first-same e f es fs r s h =
      let key : e.0 ≡ f.0 = first-keys e f es fs r s h in
      let values : Some e.1 ≡ Some f.1 = sym (at-head e es) ∙ (h e.0 ∙ (ap (λ k. at same_key k (f ∷ fs)) key ∙ at-head f fs)) in
      let value : e.1 ≡ f.1 = cc values in
      λ i. (key i, value i)

  rest-same : (e f : List ℕ × V) (es fs : List (List ℕ × V)) → RisesByKey (e ∷ es) → RisesByKey (f ∷ fs) → ((key : List ℕ) → at same_key key (e ∷ es) ≡ at same_key key (f ∷ fs))
      → (key : List ℕ) → at same_key key es ≡ at same_key key fs
  rest-same e f es fs r s h key =
      let first : e.0 ≡ f.0 = first-keys e f es fs r s h in
      let by : (b : Bool) → same_key e.0 key ≡ b → at same_key key es ≡ at same_key key fs = elim [
        | true ↦ λ is.
            let here : e.0 ≡ key = same_key-is e.0 key is in
            let there : f.0 ≡ key = sym first ∙ here in
            let one : at same_key key es ≡ None = at-below key es (subst (λ k. Each (λ (x : List ℕ × V). slice_cmp nat_cmp k x.0 ≡ Less) es) here r.0) in
            let other : at same_key key fs ≡ None = at-below key fs (subst (λ k. Each (λ (x : List ℕ × V). slice_cmp nat_cmp k x.0 ≡ Less) fs) there s.0) in
            one ∙ sym other
        | false ↦ λ is. sym (at-tail key e es is) ∙ (h key ∙ at-tail key f fs (ap (λ k. same_key k key) (sym first) ∙ is))
      ] in by (same_key e.0 key) refl

  -- entries in order that have the same under each key are the same
  pub same-entries : (es fs : List (List ℕ × V)) → RisesByKey es → RisesByKey fs → ((key : List ℕ) → at same_key key es ≡ at same_key key fs) → es ≡ fs
  same-entries [] [] r s h = refl
  same-entries [] (f ∷ fs) r s h = absurd (not-there f.1 None (sym (at-head f fs) ∙ sym (h f.0)) refl)
  same-entries (e ∷ es) [] r s h = absurd (not-there e.1 None (sym (at-head e es) ∙ h e.0) refl)
  same-entries (e ∷ es) (f ∷ fs) r s h =
      let one : e ≡ f = first-same e f es fs r s h in
      let rest : es ≡ fs = same-entries es fs r.1 s.1 (rest-same e f es fs r s h) in
      λ i. one i ∷ rest i
