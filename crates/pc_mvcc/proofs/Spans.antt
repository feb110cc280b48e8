-- What is found in a span of chains joined to one list: the first that passes, and the keys.
use Rattle.std.proofs.Common.{◌≡◌, ℕ, suc, ◌≤◌, Bool, true, false, ◌&&◌, nat_le, nat_lt, cond, if◌then◌else◌, List, [], ◌∷◌, ◌++◌, filter, find, fold, map, Option, None, Some, refl, sym, ap, subst, ◌∙◌, arith}
use Rattle.std.proofs.lemmas.Cmp.{nat_list_cmp_total, tied_itself}
use Rattle.std.proofs.lemmas.List.{map-append}
use Rattle.std.proofs.lemmas.List.Elements.{filter-append, recursion_from_All}
use Rattle.std.proofs.lemmas.List.Sums.{fold-append}
use Rattle.std.specs.BTreeMap.Range.{entries_between}
use Rattle.std.specs.BTreeSet.{insert_key}
use Rattle.std.specs.Cmp.Lexicographic.{slice_cmp}
use Rattle.std.specs.declared.cmp.Ordering.{Ordering}
use Rattle.std.specs.declared.cmp.Ordering.TheVariants.{Less, Equal, Greater}
use Rattle.std.specs.declared.ops.Bound.{Bound}
use Rattle.std.specs.List.{AllByRecursion as Each}
use Rattle.std.specs.List.Sorted.{IsNonDecreasingBy, IsStrictlySortedBy}
use Rattle.std.specs.Map.{keys_of}
use Rattle.std.specs.Option.{is_some, option_and_then}
use Rattle.std.specs.Ordering.{is_eq, is_lt, match_ordering, nat_cmp, ordering_reverse}
use Rattle.std.specs.Prelude.{⊤}
use Rattle.pc_base.specs.declared.span.Span.{Span}
use Rattle.pc_base.specs.declared.version.Version.{Version}
use Rattle.pc_base.specs.Span.{contains, key_below, same_key}
use Rattle.pc_base.specs.SpanBounds.{AreBoundsOf}
use Rattle.pc_base.specs.Versions.{first_between, sooner}
use Rattle.pc_mvcc.proofs.Joined.{Chain}
use Rattle.pc_mvcc.proofs.Rising.{rising_rest}
use Rattle.pc_mvcc.specs.Chains.{AreChains, IsChain, joined, with_key_of}

-- The second version is not sooner than the first.
record IsNotSooner (v w : Version) : Type 0 where
  key : key_below w.key v.key ≡ false
  ts : (same_key w.key v.key && nat_lt w.ts v.ts) ≡ false

-- No version is sooner than one before it.
InOrder : List Version → Type 0
InOrder [] = ⊤
InOrder (v ∷ vs) = Each (IsNotSooner v) vs × InOrder vs

kept : (v w : Version) → IsNotSooner v w → sooner (Some v) w ≡ Some v
kept v w h = ap (λ b. if b then Some w else if same_key w.key v.key && nat_lt w.ts v.ts then Some w else Some v) h.key ∙ ap (λ b. if b then Some w else Some v) h.ts

stays : (v : Version) (test : Version → Bool) (vs : List Version) → Each (IsNotSooner v) vs → fold sooner (Some v) (filter test vs) ≡ Some v
stays v test [] a = refl
stays v test (w ∷ ws) a = by (test w) (stays v test ws a.1)
  where
    by : (b : Bool) → fold sooner (Some v) (filter test ws) ≡ Some v → fold sooner (Some v) (cond b (w ∷ filter test ws) (filter test ws)) ≡ Some v
    by true rest = ap (λ best. fold sooner best (filter test ws)) (kept v w a.0) ∙ rest
    by false rest = rest

first-found : (test : Version → Bool) (vs : List Version) → InOrder vs → fold sooner None (filter test vs) ≡ find test vs
unfolding InOrder
first-found test [] h = refl
first-found test (v ∷ vs) h = by (test v) (first-found test vs h.1)
  where
    by : (b : Bool) → fold sooner None (filter test vs) ≡ find test vs → fold sooner None (cond b (v ∷ filter test vs) (filter test vs)) ≡ cond b (Some v) (find test vs)
    by true rest = stays v test vs h.0
    by false rest = rest

both-each : (P : Version → Type 0) (xs ys : List Version) → Each P xs → Each P ys → Each P (xs ++ ys)
both-each P [] ys a b = b
both-each P (x ∷ xs) ys a b = (a.0, both-each P xs ys a.1 b)

in-turn : (xs ys : List Version) → InOrder xs → InOrder ys → Each (λ x. Each (IsNotSooner x) ys) xs → InOrder (xs ++ ys)
unfolding InOrder
in-turn [] ys h k a = k
in-turn (x ∷ xs) ys h k a = (both-each (IsNotSooner x) xs ys h.0 a.0, in-turn xs ys h.1 k a.1)

turned : (o : Ordering) → o ≡ Less → (is_lt (ordering_reverse o) ≡ false) × (is_eq (ordering_reverse o) ≡ false)
turned Less h = (refl, refl)
turned Equal h = absurd cc
turned Greater h = absurd cc

-- a version of a greater key is not sooner
of-greater : (v w : Version) → slice_cmp nat_cmp v.key w.key ≡ Less → IsNotSooner v w
of-greater v w less =
    let both = turned (slice_cmp nat_cmp v.key w.key) less in
    let order : slice_cmp nat_cmp w.key v.key ≡ ordering_reverse (slice_cmp nat_cmp v.key w.key) = nat_list_cmp_total.antisymm w.key v.key in
    record { key = ap is_lt order ∙ both.0; ts = ap (λ b. b && nat_lt w.ts v.ts) (ap is_eq order ∙ both.1) }

of-one : (v w : Version) → v.key ≡ w.key → v.ts ≤ w.ts → IsNotSooner v w
of-one v w same low =
    let tied : slice_cmp nat_cmp w.key v.key ≡ Equal = subst (λ k. slice_cmp nat_cmp w.key k ≡ Equal) (sym same) (tied_itself nat_list_cmp_total w.key) in
    record { key = ap is_lt tied; ts = ap (λ b. b && nat_lt w.ts v.ts) (ap is_eq tied) ∙ (grind arith) }

own-each : (v : Version) (ws : List Version) → Each (λ w. w.key ≡ v.key) ws → Each (λ w. v.ts ≤ w.ts) ws → Each (IsNotSooner v) ws
own-each v [] own above = tt
own-each v (w ∷ ws) own above = (of-one v w (sym own.0) above.0, own-each v ws own.1 above.1)

keyed : (key other : List ℕ) (ws : List Version) → key ≡ other → Each (λ w. w.key ≡ key) ws → Each (λ w. w.key ≡ other) ws
keyed key other ws same own = subst (λ k. Each (λ w. w.key ≡ k) ws) same own

chain-in-order : (key : List ℕ) (vs : List Version) → Each (λ v. v.key ≡ key) vs → IsNonDecreasingBy (λ v. v.ts) vs → InOrder vs
unfolding InOrder
chain-in-order key [] own rising = tt
chain-in-order key (v ∷ vs) own rising =
    let above : Each (λ w. v.ts ≤ w.ts) vs = recursion_from_All (λ w. v.ts ≤ w.ts) vs (λ k d inside. rising 0 (suc k) d (omega arith) (omega arith)) in
    (own-each v vs (keyed key v.key vs (sym own.0) own.1) above, chain-in-order key vs own.1 (rising_rest v vs rising))

greater-each : (v : Version) (key : List ℕ) (ws : List Version) → slice_cmp nat_cmp v.key key ≡ Less → Each (λ w. w.key ≡ key) ws → Each (IsNotSooner v) ws
greater-each v key [] less own = tt
greater-each v key (w ∷ ws) less own = (of-greater v w (subst (λ k. slice_cmp nat_cmp v.key k ≡ Less) (sym own.0) less), greater-each v key ws less own.1)

chains-each : (v : Version) (es : List Chain) → Each (λ k. slice_cmp nat_cmp v.key k ≡ Less) (keys_of es) → Each (λ e. IsChain e.0 e.1.items) es → Each (IsNotSooner v) (joined es)
chains-each v [] less each = tt
chains-each v (e ∷ es) less each =
    let own = each.0 in
    both-each (IsNotSooner v) e.1.items (joined es) (greater-each v e.0 e.1.items less.0 own.own) (chains-each v es less.1 each.1)

before-rest : (key : List ℕ) (vs : List Version) (es : List Chain) → Each (λ v. v.key ≡ key) vs → Each (λ k. slice_cmp nat_cmp key k ≡ Less) (keys_of es) → Each (λ e. IsChain e.0 e.1.items) es → Each (λ v. Each (IsNotSooner v) (joined es)) vs
before-rest key [] es own less each = tt
before-rest key (v ∷ vs) es own less each =
    (chains-each v es (subst (λ j. Each (λ k. slice_cmp nat_cmp j k ≡ Less) (keys_of es)) (sym own.0) less) each, before-rest key vs es own.1 less each)

joined-in-order : (es : List Chain) → AreChains es → InOrder (joined es)
unfolding InOrder IsStrictlySortedBy
joined-in-order [] chains = tt
joined-in-order (e ∷ es) chains =
    let each = chains.each in
    let ordered = chains.ordered in
    let own = each.0 in
    in-turn e.1.items (joined es) (chain-in-order e.0 e.1.items own.own own.rising) (joined-in-order es (record { ordered = ordered.1; each = each.1 }))
    (before-rest e.0 e.1.items es own.own ordered.0 each.1)

-- The version lies above one timestamp and not above another.
abbrev pub lies_between : ℕ → ℕ → Version → Bool
lies_between from to v = nat_lt from v.ts && nat_le v.ts to

-- A version of the chain lies between.
abbrev pub has_one : ℕ → ℕ → Chain → Bool
has_one from to e = is_some (find (lies_between from to) e.1.items)

module _ (span : Span) (from to : ℕ) where
  Passes : Version → Bool
  Passes v = contains span v.key && lies_between from to v

  find-inside : (key : List ℕ) (vs : List Version) → Each (λ v. v.key ≡ key) vs → contains span key ≡ true → find (λ v. contains span v.key && lies_between from to v) vs ≡ find (lies_between from to) vs
  find-inside key [] own is = refl
  find-inside key (v ∷ vs) own is =
      ap (λ k. cond (contains span k && lies_between from to v) (Some v) (find (λ v. contains span v.key && lies_between from to v) vs)) own.0
      ∙ (ap (λ b. cond (b && lies_between from to v) (Some v) (find (λ v. contains span v.key && lies_between from to v) vs)) is
      ∙ ap (λ o. cond (lies_between from to v) (Some v) o) (find-inside key vs own.1 is))

  find-outside : (key : List ℕ) (vs : List Version) → Each (λ v. v.key ≡ key) vs → contains span key ≡ false → find (λ v. contains span v.key && lies_between from to v) vs ≡ None
  find-outside key [] own is = refl
  find-outside key (v ∷ vs) own is =
      ap (λ k. cond (contains span k && lies_between from to v) (Some v) (find (λ v. contains span v.key && lies_between from to v) vs)) own.0
      ∙ (ap (λ b. cond (b && lies_between from to v) (Some v) (find (λ v. contains span v.key && lies_between from to v) vs)) is ∙ find-outside key vs own.1 is)

  -- What was found, else what is found later.
  or-later : Option Version → Option Version → Option Version
  or-later (Some v) later = Some v
  or-later None later = later

  found-first : (test : Version → Bool) (xs ys : List Version) → find test (xs ++ ys) ≡ or-later (find test xs) (find test ys)
  unfolding or-later
  found-first test [] ys = refl
  found-first test (x ∷ xs) ys = by (test x) (found-first test xs ys)
    where
      by : (b : Bool) → find test (xs ++ ys) ≡ or-later (find test xs) (find test ys) → cond b (Some x) (find test (xs ++ ys)) ≡ or-later (cond b (Some x) (find test xs)) (find test ys)
      by true rest = refl
      by false rest = rest

  in-chains : (es : List Chain) → Each (λ e. IsChain e.0 e.1.items) es
      → find (λ v. contains span v.key && lies_between from to v) (joined es) ≡ option_and_then (λ e. find (lies_between from to) e.1.items) (find (has_one from to) (filter (λ e. contains span e.0) es))
  unfolding or-later
  in-chains [] each = refl
  in-chains (e ∷ es) each =
      let own = each.0 in
      found-first (λ v. contains span v.key && lies_between from to v) e.1.items (joined es)
      ∙ by (contains span e.0) refl (find (lies_between from to) e.1.items) refl own.own (in-chains es each.1)
    where
      by : (b : Bool) → contains span e.0 ≡ b → (o : Option Version) → find (lies_between from to) e.1.items ≡ o → Each (λ v. v.key ≡ e.0) e.1.items
          → find (λ v. contains span v.key && lies_between from to v) (joined es) ≡ option_and_then (λ e. find (lies_between from to) e.1.items) (find (has_one from to) (filter (λ e. contains span e.0) es))
          → or-later (find (λ v. contains span v.key && lies_between from to v) e.1.items) (find (λ v. contains span v.key && lies_between from to v) (joined es))
          ≡ option_and_then (λ e. find (lies_between from to) e.1.items) (find (has_one from to) (cond b (e ∷ filter (λ e. contains span e.0) es) (filter (λ e. contains span e.0) es)))
      by false is o there own rest = ap (λ o. or-later o (find (λ v. contains span v.key && lies_between from to v) (joined es))) (find-outside e.0 e.1.items own is) ∙ rest
      by true is None there own rest =
          ap (λ o. or-later o (find (λ v. contains span v.key && lies_between from to v) (joined es))) (find-inside e.0 e.1.items own is ∙ there)
          ∙ (rest
          ∙ sym (ap (λ o. option_and_then (λ (e : Chain). find (lies_between from to) e.1.items) (cond (is_some o) (Some e) (find (has_one from to) (filter (λ e. contains span e.0) es)))) there))
      by true is (Some v) there own rest =
          ap (λ o. or-later o (find (λ v. contains span v.key && lies_between from to v) (joined es))) (find-inside e.0 e.1.items own is ∙ there)
          ∙ sym (ap (λ o. option_and_then (λ (e : Chain). find (lies_between from to) e.1.items) (cond (is_some o) (Some e) (find (has_one from to) (filter (λ e. contains span e.0) es)))) there ∙ there)

  -- the first in the span is the first of the span's first chain that has one
  pub first_in_chains : (es : List Chain) → AreChains es
      → first_between span from to (joined es) ≡ option_and_then (λ e. find (lies_between from to) e.1.items) (find (has_one from to) (filter (λ e. contains span e.0) es))
  first_in_chains es chains =
      first-found (λ v. contains span v.key && lies_between from to v) (joined es) (joined-in-order es chains) ∙ in-chains es chains.each

-- a key put in again changes nothing
again : (ks : List (List ℕ)) (k : List ℕ) → insert_key (slice_cmp nat_cmp) (insert_key (slice_cmp nat_cmp) ks k) k ≡ insert_key (slice_cmp nat_cmp) ks k
again [] k = ap (λ o. match_ordering o (k ∷ k ∷ []) (k ∷ []) (k ∷ k ∷ [])) (tied_itself nat_list_cmp_total k)
again (x ∷ xs) k = by (slice_cmp nat_cmp k x) refl (again xs k)
  where
    by : (o : Ordering) → slice_cmp nat_cmp k x ≡ o → insert_key (slice_cmp nat_cmp) (insert_key (slice_cmp nat_cmp) xs k) k ≡ insert_key (slice_cmp nat_cmp) xs k
        → insert_key (slice_cmp nat_cmp) (match_ordering o (k ∷ x ∷ xs) (x ∷ xs) (x ∷ insert_key (slice_cmp nat_cmp) xs k)) k ≡ match_ordering o (k ∷ x ∷ xs) (x ∷ xs) (x ∷ insert_key (slice_cmp nat_cmp) xs k)
    by Less is rest = ap (λ o. match_ordering o (k ∷ k ∷ x ∷ xs) (k ∷ x ∷ xs) (k ∷ insert_key (slice_cmp nat_cmp) (x ∷ xs) k)) (tied_itself nat_list_cmp_total k)
    by Equal is rest = ap (λ o. match_ordering o (k ∷ x ∷ xs) (x ∷ xs) (x ∷ insert_key (slice_cmp nat_cmp) xs k)) is
    by Greater is rest =
        ap (λ o. match_ordering o (k ∷ x ∷ insert_key (slice_cmp nat_cmp) xs k) (x ∷ insert_key (slice_cmp nat_cmp) xs k) (x ∷ insert_key (slice_cmp nat_cmp) (insert_key (slice_cmp nat_cmp) xs k) k)) is
        ∙ ap (λ ys. x ∷ ys) rest

module _ (span : Span) where
  -- The keys with those of the span among these.
  abbrev with_keys : List (List ℕ) → List (List ℕ) → List (List ℕ)
  with_keys keys more = fold (insert_key (slice_cmp nat_cmp)) keys (filter (contains span) more)

  same-again : (key : List ℕ) (vs : List Version) (keys : List (List ℕ)) → Each (λ v. v.key ≡ key) vs → contains span key ≡ true
      → with_keys (insert_key (slice_cmp nat_cmp) keys key) (map (λ v. v.key) vs) ≡ insert_key (slice_cmp nat_cmp) keys key
  same-again key [] keys own is = refl
  same-again key (v ∷ vs) keys own is =
      ap (λ k. with_keys (insert_key (slice_cmp nat_cmp) keys key) (k ∷ map (λ (v : Version). v.key) vs)) own.0
      ∙ (ap (λ b. fold (insert_key (slice_cmp nat_cmp)) (insert_key (slice_cmp nat_cmp) keys key) (cond b (key ∷ filter (contains span) (map (λ (v : Version). v.key) vs)) (filter (contains span) (map (λ (v : Version). v.key) vs)))) is
      ∙ (ap (λ ks. with_keys ks (map (λ (v : Version). v.key) vs)) (again keys key) ∙ same-again key vs keys own.1 is))

  none-inside : (key : List ℕ) (vs : List Version) → Each (λ v. v.key ≡ key) vs → contains span key ≡ false → filter (contains span) (map (λ v. v.key) vs) ≡ []
  none-inside key [] own is = refl
  none-inside key (v ∷ vs) own is =
      ap (λ k. cond (contains span k) (k ∷ filter (contains span) (map (λ (v : Version). v.key) vs)) (filter (contains span) (map (λ (v : Version). v.key) vs))) own.0
      ∙ (ap (λ b. cond b (key ∷ filter (contains span) (map (λ (v : Version). v.key) vs)) (filter (contains span) (map (λ (v : Version). v.key) vs))) is ∙ none-inside key vs own.1 is)

  one-chain : (key : List ℕ) (vs : List Version) (keys : List (List ℕ)) → Each (λ v. v.key ≡ key) vs → contains span key ≡ true → with_key_of key vs keys ≡ with_keys keys (map (λ v. v.key) vs)
  one-chain key [] keys own is = refl
  one-chain key (v ∷ vs) keys own is =
      sym (same-again key vs keys own.1 is)
      ∙ sym (ap (λ k. fold (insert_key (slice_cmp nat_cmp)) keys (filter (contains span) (k ∷ map (λ (v : Version). v.key) vs))) own.0
      ∙ ap (λ b. fold (insert_key (slice_cmp nat_cmp)) keys (cond b (key ∷ filter (contains span) (map (λ (v : Version). v.key) vs)) (filter (contains span) (map (λ (v : Version). v.key) vs)))) is)

  -- the keys of the span's chains are those of all versions in the span
  pub keys_of_chains : (keys : List (List ℕ)) (es : List Chain) → Each (λ e. IsChain e.0 e.1.items) es
      → fold (λ keys e. with_key_of e.0 e.1.items keys) keys (filter (λ e. contains span e.0) es) ≡ fold (insert_key (slice_cmp nat_cmp)) keys (filter (contains span) (map (λ v. v.key) (joined es)))
  keys_of_chains keys [] each = refl
  keys_of_chains keys (e ∷ es) each =
      by (contains span e.0) refl each (λ keys. keys_of_chains keys es each.1)
      ∙ (ap (fold (insert_key (slice_cmp nat_cmp)) keys) (sym (filter-append (contains span) (map (λ (v : Version). v.key) e.1.items) (map (λ (v : Version). v.key) (joined es))))
      ∙ ap (λ ks. fold (insert_key (slice_cmp nat_cmp)) keys (filter (contains span) ks)) (sym (map-append (λ (v : Version). v.key) e.1.items (joined es))))
    where
      by : (b : Bool) → contains span e.0 ≡ b → Each (λ e. IsChain e.0 e.1.items) (e ∷ es)
          → ((keys : List (List ℕ)) → fold (λ keys (e : Chain). with_key_of e.0 e.1.items keys) keys (filter (λ e. contains span e.0) es) ≡ fold (insert_key (slice_cmp nat_cmp)) keys (filter (contains span) (map (λ v. v.key) (joined es))))
          → fold (λ keys (e : Chain). with_key_of e.0 e.1.items keys) keys (cond b (e ∷ filter (λ e. contains span e.0) es) (filter (λ e. contains span e.0) es))
          ≡ fold (insert_key (slice_cmp nat_cmp)) keys (filter (contains span) (map (λ v. v.key) e.1.items) ++ filter (contains span) (map (λ v. v.key) (joined es)))
      by true is each rest =
          let own = each.0 in
          rest (with_key_of e.0 e.1.items keys)
          ∙ (ap (λ ks. with_keys ks (map (λ (v : Version). v.key) (joined es))) (one-chain e.0 e.1.items keys own.own is)
          ∙ sym (fold-append (insert_key (slice_cmp nat_cmp)) keys (filter (contains span) (map (λ (v : Version). v.key) e.1.items)) (filter (contains span) (map (λ (v : Version). v.key) (joined es)))))
      by false is each rest =
          let own = each.0 in
          rest keys
          ∙ sym (ap (λ ks. fold (insert_key (slice_cmp nat_cmp)) keys (ks ++ filter (contains span) (map (λ (v : Version). v.key) (joined es)))) (none-inside e.0 e.1.items own.own is))

-- the entries between a span's bounds are those whose keys it has
pub entries_of_span : {X : Type 0} (span : Span) (low high : Bound (List ℕ)) (es : List (List ℕ × X)) → AreBoundsOf span low high → entries_between (slice_cmp nat_cmp) low high es ≡ filter (λ e. contains span e.0) es
entries_of_span span low high [] bounds = refl
entries_of_span span low high (e ∷ es) bounds =
    ap (λ b. cond b (e ∷ entries_between (slice_cmp nat_cmp) low high es) (entries_between (slice_cmp nat_cmp) low high es)) (bounds.keys e.0)
    ∙ ap (λ es. cond (contains span e.0) (e ∷ es) es) (entries_of_span span low high es bounds)

module _ {X : Type 0} (test : X → Bool) where
  -- what was not found so far is found next, or not yet
  pub found_next : (xs : List X) (x : X) (rest : List X) → find test xs ≡ None → test x ≡ true → find test (xs ++ x ∷ rest) ≡ Some x
  found_next [] x rest none is = ap (λ b. cond b (Some x) (find test rest)) is
  found_next (y ∷ ys) x rest none is = by (test y) none (λ none. found_next ys x rest none is)
    where
      by : (b : Bool) → cond b (Some y) (find test ys) ≡ None → (find test ys ≡ None → find test (ys ++ x ∷ rest) ≡ Some x) → cond b (Some y) (find test (ys ++ x ∷ rest)) ≡ Some x
      by true none later = absurd cc
      by false none later = later none

  pub found_none : (xs : List X) (x : X) → find test xs ≡ None → test x ≡ false → find test (xs ++ x ∷ []) ≡ None
  found_none [] x none is = ap (λ b. cond b (Some x) None) is
  found_none (y ∷ ys) x none is = by (test y) none (λ none. found_none ys x none is)
    where
      by : (b : Bool) → cond b (Some y) (find test ys) ≡ None → (find test ys ≡ None → find test (ys ++ x ∷ []) ≡ None) → cond b (Some y) (find test (ys ++ x ∷ [])) ≡ None
      by true none later = absurd cc
      by false none later = later none
