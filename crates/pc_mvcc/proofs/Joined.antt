-- Chains joined to one list: where a version goes in it, and what is found of one key.
use Rattle.std.proofs.Common.{◌≡◌, ℕ, Bool, true, false, ◌&&◌, cond, if◌then◌else◌, List, [], ◌∷◌, ◌++◌, filter, Option, None, Some, refl, sym, ap, subst, ◌∙◌}
use Rattle.std.proofs.lemmas.Cmp.{nat_list_cmp_total, tied_itself}
use Rattle.std.proofs.lemmas.List.{append-nil}
use Rattle.std.proofs.lemmas.List.Elements.{filter-append}
use Rattle.std.proofs.lemmas.Map.{lookup-none}
use Rattle.std.proofs.lemmas.Map.Entries.{none_below_head}
use Rattle.std.proofs.lemmas.Map.Lookups.{exact_bytes}
use Rattle.std.specs.BTreeMap.{insert_entry, is_at}
use Rattle.std.specs.Cmp.Lexicographic.{slice_cmp}
use Rattle.std.specs.declared.cmp.Ordering.{Ordering}
use Rattle.std.specs.declared.cmp.Ordering.TheVariants.{Less, Equal, Greater}
use Rattle.std.specs.Global.{Vec}
use Rattle.std.specs.List.{AllByRecursion as Each}
use Rattle.std.specs.List.Sorted.{IsStrictlySortedBy}
use Rattle.std.specs.Map.{keys_of, lookup, set_value}
use Rattle.std.specs.Ordering.{is_eq, is_lt, match_ordering, nat_cmp, ordering_then}
use Rattle.std.specs.Option.{unwrap_or}
use Rattle.pc_base.proofs.Entries.{sorted_inserted}
use Rattle.pc_base.proofs.KeyTables.{key_written}
use Rattle.pc_base.specs.declared.version.Version.{Version}
use Rattle.pc_base.specs.Span.{same_key}
use Rattle.pc_base.specs.Versions.{version_cmp, with_version}
use Rattle.pc_mvcc.proofs.Rising.{no_chain}
use Rattle.pc_mvcc.specs.Chains.{AreChains, IsChain, joined}

abbrev pub Chain : Type 0
Chain = List ℕ × Vec Version

module _ (v : Version) where
  -- The version stands before, or does not stand before, each of these.
  IsBefore : Bool → List Version → Type 0
  IsBefore b ws = Each (λ w. is_lt (version_cmp v w) ≡ b) ws

  -- a version goes behind those before which it does not stand
  behind : (xs ys : List Version) → IsBefore false xs → with_version (xs ++ ys) v ≡ xs ++ with_version ys v
  unfolding IsBefore
  behind [] ys a = refl
  behind (x ∷ xs) ys a = ap (λ b. if b then v ∷ x ∷ xs ++ ys else x ∷ with_version (xs ++ ys) v) a.0 ∙ ap (λ zs. x ∷ zs) (behind xs ys a.1)

  first : (ys : List Version) → IsBefore true ys → with_version ys v ≡ v ∷ ys
  unfolding IsBefore
  first [] a = refl
  first (y ∷ ys) a = ap (λ b. if b then v ∷ y ∷ ys else y ∷ with_version ys v) a.0

  -- and before those before which it stands
  before : (xs ys : List Version) → IsBefore true ys → with_version (xs ++ ys) v ≡ with_version xs v ++ ys
  before [] ys a = first ys a
  before (x ∷ xs) ys a = by (is_lt (version_cmp v x)) (before xs ys a)
    where
      by : (b : Bool) → with_version (xs ++ ys) v ≡ with_version xs v ++ ys → (if b then v ∷ x ∷ xs ++ ys else x ∷ with_version (xs ++ ys) v) ≡ (if b then v ∷ x ∷ xs else x ∷ with_version xs v) ++ ys
      by true rest = refl
      by false rest = ap (λ zs. x ∷ zs) rest

  less-first : (o other : Ordering) → o ≡ Less → is_lt (ordering_then o other) ≡ true
  less-first Less other h = refl
  less-first Equal other h = absurd cc
  less-first Greater other h = absurd cc

  greater-first : (o other : Ordering) → o ≡ Greater → is_lt (ordering_then o other) ≡ false
  greater-first Less other h = absurd cc
  greater-first Equal other h = absurd cc
  greater-first Greater other h = refl

  both : (b : Bool) (xs ys : List Version) → IsBefore b xs → IsBefore b ys → IsBefore b (xs ++ ys)
  unfolding IsBefore
  both b [] ys h k = k
  both b (x ∷ xs) ys h k = (h.0, both b xs ys h.1 k)

  -- a chain of a greater key stands behind
  chain-before : (key : List ℕ) (ws : List Version) → slice_cmp nat_cmp v.key key ≡ Less → Each (λ w. w.key ≡ key) ws → IsBefore true ws
  unfolding IsBefore
  chain-before key [] less own = tt
  chain-before key (w ∷ ws) less own =
      (less-first (slice_cmp nat_cmp v.key w.key) (nat_cmp v.ts w.ts) (subst (λ k. slice_cmp nat_cmp v.key k ≡ Less) (sym own.0) less), chain-before key ws less own.1)

  chain-behind : (key : List ℕ) (ws : List Version) → slice_cmp nat_cmp v.key key ≡ Greater → Each (λ w. w.key ≡ key) ws → IsBefore false ws
  unfolding IsBefore
  chain-behind key [] greater own = tt
  chain-behind key (w ∷ ws) greater own =
      (greater-first (slice_cmp nat_cmp v.key w.key) (nat_cmp v.ts w.ts) (subst (λ k. slice_cmp nat_cmp v.key k ≡ Greater) (sym own.0) greater), chain-behind key ws greater own.1)

  chains-before : (es : List Chain) → Each (λ k. slice_cmp nat_cmp v.key k ≡ Less) (keys_of es) → Each (λ e. IsChain e.0 e.1.items) es → IsBefore true (joined es)
  unfolding IsBefore
  chains-before [] less each = tt
  chains-before (e ∷ es) less each =
      let own = each.0 in
      both true e.1.items (joined es) (chain-before e.0 e.1.items less.0 own.own) (chains-before es less.1 each.1)

  all-less : (key : List ℕ) (ks : List (List ℕ)) → slice_cmp nat_cmp v.key key ≡ Less → Each (λ k. slice_cmp nat_cmp key k ≡ Less) ks → Each (λ k. slice_cmp nat_cmp v.key k ≡ Less) ks
  all-less key [] less above = tt
  all-less key (k ∷ ks) less above = (nat_list_cmp_total.trans v.key key k less above.0, all-less key ks less above.1)

  same-less : (key : List ℕ) (ks : List (List ℕ)) → v.key ≡ key → Each (λ k. slice_cmp nat_cmp key k ≡ Less) ks → Each (λ k. slice_cmp nat_cmp v.key k ≡ Less) ks
  same-less key ks same above = subst (λ j. Each (λ k. slice_cmp nat_cmp j k ≡ Less) ks) (sym same) above

  -- a chain of the version's key with it: the version is in its place among all
  pub placed_there : (old new : Vec Version) (es : List Chain) → AreChains es → lookup (is_at (slice_cmp nat_cmp v.key)) es ≡ Some old → new.items ≡ with_version old.items v
      → joined (set_value (is_at (slice_cmp nat_cmp v.key)) es new) ≡ with_version (joined es) v
  unfolding IsStrictlySortedBy
  placed_there old new [] chains found grown = absurd cc
  placed_there old new (e ∷ es) chains found grown =
      let each = chains.each in
      let ordered = chains.ordered in
      by (slice_cmp nat_cmp v.key e.0) refl found (λ later. placed_there old new es (record { ordered = ordered.1; each = each.1 }) later grown)
    where
      by : (o : Ordering) → slice_cmp nat_cmp v.key e.0 ≡ o → cond (is_eq o) (Some e.1) (lookup (is_at (slice_cmp nat_cmp v.key)) es) ≡ Some old
          → (lookup (is_at (slice_cmp nat_cmp v.key)) es ≡ Some old → joined (set_value (is_at (slice_cmp nat_cmp v.key)) es new) ≡ with_version (joined es) v)
          → joined (cond (is_eq o) ((e.0, new) ∷ es) (e ∷ set_value (is_at (slice_cmp nat_cmp v.key)) es new)) ≡ with_version (e.1.items ++ joined es) v
      by Less is found rest =
          let none : lookup (is_at (slice_cmp nat_cmp v.key)) es ≡ None = lookup-none (is_at (slice_cmp nat_cmp v.key)) es (none_below_head nat_list_cmp_total v.key e es chains.ordered is).1 in
          absurd (let clash = sym none ∙ found in cc)
      by Equal is found rest =
          let same : e.1 ≡ old = cc in
          let each = chains.each in
          let ordered = chains.ordered in
          ap (λ xs. xs ++ joined es) (grown ∙ ap (λ (c : Vec Version). with_version c.items v) (sym same))
          ∙ sym (before e.1.items (joined es) (chains-before es (same-less e.0 (keys_of es) (exact_bytes v.key e.0 is) ordered.0) each.1))
      by Greater is found rest =
          let each = chains.each in
          let own = each.0 in
          ap (λ xs. e.1.items ++ xs) (rest found) ∙ sym (behind e.1.items (joined es) (chain-behind e.0 e.1.items is own.own))

  -- the first chain of its key
  pub placed_first : (new : Vec Version) (es : List Chain) → AreChains es → lookup (is_at (slice_cmp nat_cmp v.key)) es ≡ None → new.items ≡ v ∷ []
      → joined (insert_entry (slice_cmp nat_cmp) es v.key new) ≡ with_version (joined es) v
  unfolding IsStrictlySortedBy
  placed_first new [] chains absent is = ap (λ xs. xs ++ []) is
  placed_first new (e ∷ es) chains absent single =
      let each = chains.each in
      let ordered = chains.ordered in
      by (slice_cmp nat_cmp v.key e.0) refl absent (λ later. placed_first new es (record { ordered = ordered.1; each = each.1 }) later single)
    where
      by : (o : Ordering) → slice_cmp nat_cmp v.key e.0 ≡ o → cond (is_eq o) (Some e.1) (lookup (is_at (slice_cmp nat_cmp v.key)) es) ≡ None
          → (lookup (is_at (slice_cmp nat_cmp v.key)) es ≡ None → joined (insert_entry (slice_cmp nat_cmp) es v.key new) ≡ with_version (joined es) v)
          → joined (match_ordering o ((v.key, new) ∷ e ∷ es) ((e.0, new) ∷ es) (e ∷ insert_entry (slice_cmp nat_cmp) es v.key new)) ≡ with_version (e.1.items ++ joined es) v
      by Less is absent rest =
          let ordered = chains.ordered in
          ap (λ xs. xs ++ (e.1.items ++ joined es)) single ∙ sym (first (e.1.items ++ joined es) (chains-before (e ∷ es) (is, all-less e.0 (keys_of es) is ordered.0) chains.each))
      by Equal is absent rest = absurd cc
      by Greater is absent rest =
          let each = chains.each in
          let own = each.0 in
          ap (λ xs. e.1.items ++ xs) (rest absent) ∙ sym (behind e.1.items (joined es) (chain-behind e.0 e.1.items is own.own))

  each-placed : (new : Vec Version) (es : List Chain) → IsChain v.key new.items → Each (λ e. IsChain e.0 e.1.items) es → Each (λ e. IsChain e.0 e.1.items) (insert_entry (slice_cmp nat_cmp) es v.key new)
  each-placed new [] h each = (h, tt)
  each-placed new (e ∷ es) h each = by (slice_cmp nat_cmp v.key e.0) refl (each-placed new es h each.1)
    where
      by : (o : Ordering) → slice_cmp nat_cmp v.key e.0 ≡ o → Each (λ e. IsChain e.0 e.1.items) (insert_entry (slice_cmp nat_cmp) es v.key new)
          → Each (λ e. IsChain e.0 e.1.items) (match_ordering o ((v.key, new) ∷ e ∷ es) ((e.0, new) ∷ es) (e ∷ insert_entry (slice_cmp nat_cmp) es v.key new))
      by Less is rest = (h, each)
      by Equal is rest = (subst (λ k. IsChain k new.items) (exact_bytes v.key e.0 is) h, each.1)
      by Greater is rest = (each.0, rest)

  -- chains are chains still
  pub chains_with : (new : Vec Version) (es : List Chain) → IsChain v.key new.items → AreChains es → AreChains (insert_entry (slice_cmp nat_cmp) es v.key new)
  chains_with new es h chains = record { ordered = sorted_inserted nat_list_cmp_total v.key new es chains.ordered; each = each-placed new es h chains.each }

-- The versions of a chain, where there is one.
abbrev pub chain_of : Option (Vec Version) → List Version
chain_of None = []
chain_of (Some chain) = chain.items

module _ (key : List ℕ) (test passes : Version → Bool) (inside : (v : Version) → v.key ≡ key → passes v ≡ test v) (outside : (v : Version) → (v.key ≡ key → ⊥) → passes v ≡ false) where
  own-filtered : (ws : List Version) → Each (λ w. w.key ≡ key) ws → filter passes ws ≡ filter test ws
  own-filtered [] own = refl
  own-filtered (w ∷ ws) own =
      ap (λ b. cond b (w ∷ filter passes ws) (filter passes ws)) (inside w own.0)
      ∙ ap (λ xs. cond (test w) (w ∷ xs) xs) (own-filtered ws own.1)

  other-filtered : (ws : List Version) (other : List ℕ) → (other ≡ key → ⊥) → Each (λ w. w.key ≡ other) ws → filter passes ws ≡ []
  other-filtered [] other apart own = refl
  other-filtered (w ∷ ws) other apart own =
      ap (λ b. cond b (w ∷ filter passes ws) (filter passes ws)) (outside w (λ same. apart (sym own.0 ∙ same))) ∙ other-filtered ws other apart own.1

  none-filtered : (es : List Chain) → Each (λ k. slice_cmp nat_cmp key k ≡ Less) (keys_of es) → Each (λ e. IsChain e.0 e.1.items) es → filter passes (joined es) ≡ []
  none-filtered [] above each = refl
  none-filtered (e ∷ es) above each =
      let own = each.0 in
      let apart : e.0 ≡ key → ⊥ = λ same.
      let tied : slice_cmp nat_cmp key e.0 ≡ Equal = subst (λ k. slice_cmp nat_cmp key k ≡ Equal) (sym same) (tied_itself nat_list_cmp_total key) in
      let both = sym tied ∙ above.0 in
      cc in
      filter-append passes e.1.items (joined es)
      ∙ (ap (λ xs. xs ++ filter passes (joined es)) (other-filtered e.1.items e.0 apart own.own) ∙ none-filtered es above.1 each.1)

  -- what is found of one key is found in its chain
  pub found_in_chain : (es : List Chain) → AreChains es → filter passes (joined es) ≡ filter test (chain_of (lookup (is_at (slice_cmp nat_cmp key)) es))
  unfolding IsStrictlySortedBy
  found_in_chain [] chains = refl
  found_in_chain (e ∷ es) chains =
      let each = chains.each in
      let ordered = chains.ordered in
      filter-append passes e.1.items (joined es) ∙ by (slice_cmp nat_cmp key e.0) refl (found_in_chain es (record { ordered = ordered.1; each = each.1 }))
    where
      apart-when : (o : Ordering) → slice_cmp nat_cmp key e.0 ≡ o → (o ≡ Equal → ⊥) → e.0 ≡ key → ⊥
      apart-when o is differs same = differs (sym is ∙ subst (λ k. slice_cmp nat_cmp key k ≡ Equal) (sym same) (tied_itself nat_list_cmp_total key))

      by : (o : Ordering) → slice_cmp nat_cmp key e.0 ≡ o → filter passes (joined es) ≡ filter test (chain_of (lookup (is_at (slice_cmp nat_cmp key)) es))
          → filter passes e.1.items ++ filter passes (joined es) ≡ filter test (chain_of (cond (is_eq o) (Some e.1) (lookup (is_at (slice_cmp nat_cmp key)) es)))
      by Less is rest =
          let each = chains.each in
          let own = each.0 in
          ap (λ xs. xs ++ filter passes (joined es)) (other-filtered e.1.items e.0 (apart-when Less is (λ h. cc)) own.own) ∙ rest
      by Equal is rest =
          let each = chains.each in
          let ordered = chains.ordered in
          let own = each.0 in
          let same : key ≡ e.0 = exact_bytes key e.0 is in
          ap (λ xs. xs ++ filter passes (joined es)) (own-filtered e.1.items (subst (λ k. Each (λ w. w.key ≡ k) e.1.items) (sym same) own.own))
          ∙ (ap (λ xs. filter test e.1.items ++ xs) (none-filtered es (subst (λ j. Each (λ k. slice_cmp nat_cmp j k ≡ Less) (keys_of es)) (sym same) ordered.0) each.1)
          ∙ append-nil (filter test e.1.items))
      by Greater is rest =
          let each = chains.each in
          let own = each.0 in
          ap (λ xs. xs ++ filter passes (joined es)) (other-filtered e.1.items e.0 (apart-when Greater is (λ h. cc)) own.own) ∙ rest

-- a chain that is found is one
pub chain_found : (key : List ℕ) (es : List Chain) (chain : Vec Version) → AreChains es → lookup (is_at (slice_cmp nat_cmp key)) es ≡ Some chain → IsChain key chain.items
unfolding IsStrictlySortedBy
chain_found key [] chain chains found = absurd cc
chain_found key (e ∷ es) chain chains found =
    let each = chains.each in
    let ordered = chains.ordered in
    by (slice_cmp nat_cmp key e.0) refl found (λ later. chain_found key es chain (record { ordered = ordered.1; each = each.1 }) later)
  where
    by : (o : Ordering) → slice_cmp nat_cmp key e.0 ≡ o → cond (is_eq o) (Some e.1) (lookup (is_at (slice_cmp nat_cmp key)) es) ≡ Some chain → (lookup (is_at (slice_cmp nat_cmp key)) es ≡ Some chain → IsChain key chain.items) → IsChain key chain.items
    by Less is found rest = rest found
    by Equal is found rest =
        let same : e.1 ≡ chain = cc in
        let each = chains.each in
        subst (λ (c : Vec Version). IsChain key c.items) same (subst (λ k. IsChain k e.1.items) (sym (exact_bytes key e.0 is)) each.0)
    by Greater is found rest = rest found

same-key : (key : List ℕ) (v : Version) → v.key ≡ key → same_key v.key key ≡ true
same-key key v same = subst (λ k. same_key v.key k ≡ true) same (ap is_eq (tied_itself nat_list_cmp_total v.key))

other-key : (key : List ℕ) (v : Version) → (v.key ≡ key → ⊥) → same_key v.key key ≡ false
other-key key v apart = by (same_key v.key key) refl
  where
    equal-only : (o : Ordering) → is_eq o ≡ true → o ≡ Equal
    equal-only Less h = absurd cc
    equal-only Equal h = refl
    equal-only Greater h = absurd cc

    by : (b : Bool) → same_key v.key key ≡ b → same_key v.key key ≡ false
    by false is = is
    by true is = absurd (apart (exact_bytes v.key key (equal-only (slice_cmp nat_cmp v.key key) is)))

module _ (key : List ℕ) (es : List Chain) (chains : AreChains es) where
  all-kept : (ws : List Version) → filter (λ v. true) ws ≡ ws
  all-kept [] = refl
  all-kept (w ∷ ws) = ap (λ xs. w ∷ xs) (all-kept ws)

  pub all_in_chain : filter (λ v. same_key v.key key) (joined es) ≡ chain_of (lookup (is_at (slice_cmp nat_cmp key)) es)
  all_in_chain =
      found_in_chain key (λ v. true) (λ v. same_key v.key key) (λ v same. same-key key v same) (λ v apart. other-key key v apart) es chains
      ∙ all-kept (chain_of (lookup (is_at (slice_cmp nat_cmp key)) es))

-- the versions that pass two tests, one after the other
pub filtered_twice : {X : Type 0} (p q : X → Bool) (xs : List X) → filter q (filter p xs) ≡ filter (λ x. p x && q x) xs
filtered_twice p q [] = refl
filtered_twice p q (x ∷ xs) = by (p x) (filtered_twice p q xs)
  where
    by : (b : Bool) → filter q (filter p xs) ≡ filter (λ x. p x && q x) xs → filter q (cond b (x ∷ filter p xs) (filter p xs)) ≡ cond (b && q x) (x ∷ filter (λ x. p x && q x) xs) (filter (λ x. p x && q x) xs)
    by true rest = ap (λ ys. cond (q x) (x ∷ ys) ys) rest
    by false rest = rest

-- a chain of the same versions changes nothing
pub joined_same : (test : List ℕ → Bool) (old new : Vec Version) (es : List Chain) → lookup test es ≡ Some old → new.items ≡ old.items → joined (set_value test es new) ≡ joined es
joined_same test old new [] found same = refl
joined_same test old new (e ∷ es) found same = by (test e.0) found (λ later. joined_same test old new es later same)
  where
    by : (b : Bool) → cond b (Some e.1) (lookup test es) ≡ Some old → (lookup test es ≡ Some old → joined (set_value test es new) ≡ joined es) → joined (cond b ((e.0, new) ∷ es) (e ∷ set_value test es new)) ≡ e.1.items ++ joined es
    by true found rest = let is : e.1 ≡ old = cc in ap (λ xs. xs ++ joined es) (same ∙ ap (λ (c : Vec Version). c.items) (sym is))
    by false found rest = ap (λ xs. e.1.items ++ xs) (rest found)

-- a chain without versions, where there is none of its key, changes nothing
joined-empty : (key : List ℕ) (new : Vec Version) (es : List Chain) → lookup (is_at (slice_cmp nat_cmp key)) es ≡ None → new.items ≡ [] → joined (insert_entry (slice_cmp nat_cmp) es key new) ≡ joined es
joined-empty key new [] absent empty = ap (λ xs. xs ++ []) empty
joined-empty key new (e ∷ es) absent empty = by (slice_cmp nat_cmp key e.0) absent (λ later. joined-empty key new es later empty)
  where
    by : (o : Ordering) → cond (is_eq o) (Some e.1) (lookup (is_at (slice_cmp nat_cmp key)) es) ≡ None → (lookup (is_at (slice_cmp nat_cmp key)) es ≡ None → joined (insert_entry (slice_cmp nat_cmp) es key new) ≡ joined es)
        → joined (match_ordering o ((key, new) ∷ e ∷ es) ((e.0, new) ∷ es) (e ∷ insert_entry (slice_cmp nat_cmp) es key new)) ≡ e.1.items ++ joined es
    by Less absent rest = ap (λ xs. xs ++ (e.1.items ++ joined es)) empty
    by Equal absent rest = absurd cc
    by Greater absent rest = ap (λ xs. e.1.items ++ xs) (rest absent)

module _ (v : Version) (new : Vec Version) (es : List Chain) (chains : AreChains es) where
  -- the chain of the version's key with it, be it the first or not: the version is in its place among all
  pub placed : new.items ≡ with_version (chain_of (lookup (is_at (slice_cmp nat_cmp v.key)) es)) v → joined (insert_entry (slice_cmp nat_cmp) es v.key new) ≡ with_version (joined es) v
  placed grown = by (lookup (is_at (slice_cmp nat_cmp v.key)) es) refl grown
    where
      by : (o : Option (Vec Version)) → lookup (is_at (slice_cmp nat_cmp v.key)) es ≡ o → new.items ≡ with_version (chain_of o) v → joined (insert_entry (slice_cmp nat_cmp) es v.key new) ≡ with_version (joined es) v
      by None is grown = placed_first v new es chains is grown
      by (Some old) is grown = ap joined (sym (key_written v.key es old new chains.ordered is)) ∙ placed_there v old new es chains is grown

  -- the chain of the version's key as it was changes nothing
  pub left_as_it_was : new.items ≡ chain_of (lookup (is_at (slice_cmp nat_cmp v.key)) es) → joined (insert_entry (slice_cmp nat_cmp) es v.key new) ≡ joined es
  left_as_it_was same = by (lookup (is_at (slice_cmp nat_cmp v.key)) es) refl same
    where
      by : (o : Option (Vec Version)) → lookup (is_at (slice_cmp nat_cmp v.key)) es ≡ o → new.items ≡ chain_of o → joined (insert_entry (slice_cmp nat_cmp) es v.key new) ≡ joined es
      by None is same = joined-empty v.key new es is same
      by (Some old) is same = ap joined (sym (key_written v.key es old new chains.ordered is)) ∙ joined_same (is_at (slice_cmp nat_cmp v.key)) old new es is same

-- what stands under a key, where something does, is a chain
pub chain_there : (key : List ℕ) (es : List Chain) → AreChains es → IsChain key (chain_of (lookup (is_at (slice_cmp nat_cmp key)) es))
chain_there key es chains = by (lookup (is_at (slice_cmp nat_cmp key)) es) refl
  where
    by : (o : Option (Vec Version)) → lookup (is_at (slice_cmp nat_cmp key)) es ≡ o → IsChain key (chain_of o)
    by None is = no_chain key
    by (Some chain) is = chain_found key es chain chains is

-- a chain, or else one without versions
pub versions_there : (there : Option (Vec Version)) (otherwise : Vec Version) → otherwise.items ≡ [] → ◌≡◌ {A = List Version} (unwrap_or there otherwise).items (chain_of there)
versions_there None otherwise empty = empty
versions_there (Some chain) otherwise empty = refl
