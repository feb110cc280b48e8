-- What a piece of a scan finds: rows in order, in its span, with what a get would find at each key.
use Rattle.std.proofs.Common.{◌≡◌, ℕ, Bool, true, false, cond, ◌&&◌, ◌==◌, nat_le, ◌⊎◌, inl, inr, List, [], ◌∷◌, ◌++◌, filter, filter_map, fold, map, Contains, Option, None, Some, option_map, option_and_then, refl, sym, ap, subst, ◌∙◌, arith}
use Rattle.std.proofs.lemmas.Cmp.{nat_list_cmp_total}
use Rattle.std.proofs.lemmas.Map.Lookups.{exact_bytes}
use Rattle.std.specs.Cmp.Lexicographic.{slice_cmp}
use Rattle.std.specs.declared.cmp.Ordering.TheVariants.{Less, Equal}
use Rattle.std.specs.List.{AllByRecursion as Each, cons_option}
use Rattle.std.specs.List.Sorted.{IsStrictlySortedBy}
use Rattle.std.specs.Ordering.{nat_cmp}
use Rattle.pc_base.specs.declared.span.Span.{Span}
use Rattle.pc_base.specs.declared.transaction.TxnId.{TxnId}
use Rattle.pc_base.specs.declared.version.Version.{Version}
use Rattle.pc_base.specs.Keyed.{at, in_order}
use Rattle.pc_base.specs.Span.{contains, same_key}
use Rattle.pc_base.specs.Transaction.{same_txn}
use Rattle.pc_base.specs.Versions.{later, visible}
use Rattle.pc_implicit.proofs.SessionReads.{plain}
use Rattle.pc_lists.proofs.Each.{each-back, each-front, each-map, each-unmap, each-weaker}
use Rattle.pc_lists.proofs.Lists.{contains_cons, contains_head, contains_in_filter, contains_map, contains_nil, contains_tail}
use Rattle.pc_lists.proofs.Same.{same_key-is, same_key-self}
use Rattle.pc_proto.specs.declared.record.Intent.{Intent}
use Rattle.pc_proto.specs.declared.reply.Origin.{Origin}
use Rattle.pc_proto.specs.Intents.{kept_if, value_by}
use Rattle.pc_serial.proofs.InOrder.{each-in_order, has-in_order, rises-in_order, rises-sorted}
use Rattle.pc_serial.proofs.Maps.{RisesByKey, at-none}
use Rattle.pc_serial.proofs.SpanRows.{Show}
use Rattle.pc_world.specs.Evaluation.Get.{found_at, found_first, own_value}
use Rattle.pc_world.specs.Evaluation.Scan.{keys_in, row_found, rows_in}
use Rattle.pc_world.specs.RangeState.{RangeState}

-- ---- the rows of keys, by a look-up at each

-- The row of a key, where something is found there.
abbrev row_at : (List ℕ → Option (List ℕ)) → List ℕ → Option (List ℕ × List ℕ)
row_at look key = option_map (λ value. (key, value)) (look key)

abbrev rows_at : (List ℕ → Option (List ℕ)) → List (List ℕ) → List (List ℕ × List ℕ)
rows_at look keys = filter_map (row_at look) keys

plain-rows : (found : List ℕ → Origin × Option (List ℕ)) (keys : List (List ℕ)) → map plain (filter_map (λ key. row_found key (found key)) keys) ≡ rows_at (λ key. (found key).1) keys
plain-rows found [] = refl
plain-rows found (key ∷ keys) =
    let rest = filter_map (λ key. row_found key (found key)) keys in
    let by : (o : Option (List ℕ)) → map plain (cons_option (option_map (λ value. (key, (found key).0, value)) o) rest) ≡ cons_option (option_map (λ value. (key, value)) o) (map plain rest) = elim [
      | None ↦ refl
      | Some value ↦ refl
    ] in by (found key).1 ∙ ap (λ rows. cons_option (row_at (λ key. (found key).1) key) rows) (plain-rows found keys)

module _ (look : List ℕ → Option (List ℕ)) where
  each-rows : (P : List ℕ → Type 0) (keys : List (List ℕ)) → Each P keys → Each (λ row. P row.0) (rows_at look keys)
  each-rows P [] a = tt
  each-rows P (key ∷ keys) a =
      let rest = each-rows P keys a.1 in
      let by : (o : Option (List ℕ)) → Each (λ row. P row.0) (cons_option (option_map (λ value. (key, value)) o) (rows_at look keys)) = elim [
        | None ↦ rest
        | Some value ↦ (a.0, rest)
      ] in by (look key)

  rows-rise : (keys : List (List ℕ)) → IsStrictlySortedBy (slice_cmp nat_cmp) keys → RisesByKey (rows_at look keys)
  unfolding IsStrictlySortedBy
  rows-rise [] s = tt
  rows-rise (key ∷ keys) s =
      let rest = rows-rise keys s.1 in
      let by : (o : Option (List ℕ)) → RisesByKey (cons_option (option_map (λ value. (key, value)) o) (rows_at look keys)) = elim [
        | None ↦ rest
        | Some value ↦ (each-rows (λ k. slice_cmp nat_cmp key k ≡ Less) keys s.0, rest)
      ] in by (look key)

  -- a row of another key is passed over
  passed : (key own : List ℕ) (rows : List (List ℕ × List ℕ)) (o : Option (List ℕ)) → same_key own key ≡ false → at same_key key (cons_option (option_map (λ value. (own, value)) o) rows) ≡ at same_key key rows
  passed key own rows None apart = refl
  passed key own rows (Some value) apart = grind (arith, apart)

  nothing-at : (key : List ℕ) (keys : List (List ℕ)) → look key ≡ None → at same_key key (rows_at look keys) ≡ None
  nothing-at key [] none = refl
  nothing-at key (own ∷ keys) none =
      let rest = nothing-at key keys none in
      let by : (b : Bool) → same_key own key ≡ b → at same_key key (cons_option (row_at look own) (rows_at look keys)) ≡ None = elim [
        | true ↦ λ is.
            let no_row : row_at look own ≡ None = ap (λ k. option_map (λ value. (own, value)) (look k)) (same_key-is own key is) ∙ ap (λ o. option_map (λ value. (own, value)) o) none in
            ap (λ o. at same_key key (cons_option o (rows_at look keys))) no_row ∙ rest
        | false ↦ λ is. passed key own (rows_at look keys) (look own) is ∙ rest
      ] in by (same_key own key) refl

  found-here : (key : List ℕ) (rows : List (List ℕ × List ℕ)) (o : Option (List ℕ)) → (o ≡ None → at same_key key rows ≡ None) → at same_key key (cons_option (option_map (λ value. (key, value)) o) rows) ≡ o
  found-here key rows None rest = rest refl
  found-here key rows (Some value) rest = grind (arith, same_key-self key)

  rows-at : (key : List ℕ) (keys : List (List ℕ)) → Contains keys key → at same_key key (rows_at look keys) ≡ look key
  rows-at key [] c = absurd (contains_nil key c)
  rows-at key (own ∷ keys) c =
      let rest : Contains keys key → at same_key key (rows_at look keys) ≡ look key = λ d. rows-at key keys d in
      let by : (b : Bool) → same_key own key ≡ b → at same_key key (cons_option (row_at look own) (rows_at look keys)) ≡ look key = elim [
        | true ↦ λ is.
            let same : own ≡ key = same_key-is own key is in
            ap (λ k. at same_key key (cons_option (row_at look k) (rows_at look keys))) same
            ∙ found-here key (rows_at look keys) (look key) (λ none. nothing-at key keys none)
        | false ↦ λ is.
            let there : Contains keys key = elim (contains_cons own keys key c) [
              | inl same ↦ absurd (let here : same_key own key ≡ true = ap (λ k. same_key k key) same ∙ same_key-self key in cc)
              | inr later ↦ later
            ] in passed key own (rows_at look keys) (look own) is ∙ rest there
      ] in by (same_key own key) refl

-- ---- the keys of the span at which something stands

-- where something stands in the range
abbrev all_keys : RangeState → List (List ℕ)
all_keys s = map (λ v. v.key) s.versions ++ map (λ e. e.0) s.intents

abbrev twice : List ℕ → List ℕ × List ℕ
twice key = (key, key)

-- The entry is that of a key of the span, with itself.
abbrev IsOfSpan : Span → List ℕ × List ℕ → Type 0
IsOfSpan span e = (e.0 ≡ e.1) × (contains span e.0 ≡ true)

of-span-exact : (span : Span) (x y : List ℕ × List ℕ) → IsOfSpan span x → IsOfSpan span y → slice_cmp nat_cmp x.0 y.0 ≡ Equal → x ≡ y
of-span-exact span x y h k tie =
    let first : x.0 ≡ y.0 = exact_bytes x.0 y.0 tie in
    let second : x.1 ≡ y.1 = sym h.0 ∙ (first ∙ k.0) in
    λ i. (first i, second i)

module _ (span : Span) where
  each-twice : (keys : List (List ℕ)) → Each (IsOfSpan span) (map twice (filter (contains span) keys))
  each-twice [] = tt
  each-twice (key ∷ keys) =
      let rest = each-twice keys in
      let by : (b : Bool) → contains span key ≡ b → Each (IsOfSpan span) (map twice (cond b (key ∷ filter (contains span) keys) (filter (contains span) keys))) = elim [
        | true ↦ λ is. ((refl, is), rest)
        | false ↦ λ is. rest
      ] in by (contains span key) refl

  keys-sorted : (s : RangeState) → IsStrictlySortedBy (slice_cmp nat_cmp) (keys_in span s)
  keys-sorted s =
      let entries = map twice (filter (contains span) (all_keys s)) in
      rises-sorted (slice_cmp nat_cmp) (in_order (slice_cmp nat_cmp) entries) (rises-in_order (slice_cmp nat_cmp) nat_list_cmp_total entries)

  keys-inside : (s : RangeState) → Each (λ key. contains span key ≡ true) (keys_in span s)
  keys-inside s =
      let entries = map twice (filter (contains span) (all_keys s)) in
      let all : Each (IsOfSpan span) (in_order (slice_cmp nat_cmp) entries) = each-in_order (slice_cmp nat_cmp) nat_list_cmp_total (IsOfSpan span) (of-span-exact span) entries (each-twice (all_keys s)) in
      each-map (λ key. contains span key ≡ true) (λ (e : List ℕ × List ℕ). e.0) (in_order (slice_cmp nat_cmp) entries)
      (each-weaker (IsOfSpan span) (λ e. contains span e.0 ≡ true) (λ e h. h.1) (in_order (slice_cmp nat_cmp) entries) all)

  keys-there : (s : RangeState) (key : List ℕ) → contains span key ≡ true → Contains (all_keys s) key → Contains (keys_in span s) key
  keys-there s key inside c =
      let entries = map twice (filter (contains span) (all_keys s)) in
      let kept : Contains entries (key, key) = contains_map twice (filter (contains span) (all_keys s)) key (contains_in_filter (contains span) (all_keys s) key c inside) in
      contains_map (λ (e : List ℕ × List ℕ). e.0) (in_order (slice_cmp nat_cmp) entries) (key, key)
      (has-in_order (slice_cmp nat_cmp) nat_list_cmp_total (IsOfSpan span) (of-span-exact span) entries (key, key) (each-twice (all_keys s)) kept)

there-or-not : (key : List ℕ) (keys : List (List ℕ)) → Contains keys key ⊎ Each (λ own. same_key own key ≡ false) keys
there-or-not key [] = inr tt
there-or-not key (own ∷ keys) =
    let rest = there-or-not key keys in
    let by : (b : Bool) → same_key own key ≡ b → Contains (own ∷ keys) key ⊎ Each (λ own. same_key own key ≡ false) (own ∷ keys) = elim [
      | true ↦ λ is. inl (subst (λ k. Contains (own ∷ keys) k) (same_key-is own key is) (contains_head own keys))
      | false ↦ λ is. elim rest [ inl c ↦ inl (contains_tail own keys key c) | inr a ↦ inr (is, a) ]
    ] in by (same_key own key) refl

-- ---- where nothing stands, nothing is found

no-version : (key : List ℕ) (ts : ℕ) (versions : List Version) → Each (λ v. same_key v.key key ≡ false) versions → filter (λ v. same_key v.key key && nat_le v.ts ts) versions ≡ []
no-version key ts [] a = refl
no-version key ts (v ∷ versions) a =
    ap (λ b. cond (b && nat_le v.ts ts) (v ∷ filter (λ v. same_key v.key key && nat_le v.ts ts) versions) (filter (λ v. same_key v.key key && nat_le v.ts ts) versions)) a.0
    ∙ no-version key ts versions a.1

finds-none : (id : TxnId) (epoch seq ts : ℕ) (key : List ℕ) (s : RangeState) → Each (λ own. same_key own key ≡ false) (all_keys s) → (found_at id epoch seq ts key s).1 ≡ None
finds-none id epoch seq ts key s a =
    let versions : Each (λ v. same_key v.key key ≡ false) s.versions =
    each-unmap (λ own. same_key own key ≡ false) (λ (v : Version). v.key) s.versions
    (each-front (λ own. same_key own key ≡ false) (map (λ (v : Version). v.key) s.versions) (map (λ (e : List ℕ × Intent). e.0) s.intents) a) in
    let intents : Each (λ e. same_key e.0 key ≡ false) s.intents =
    each-unmap (λ own. same_key own key ≡ false) (λ (e : List ℕ × Intent). e.0) s.intents
    (each-back (λ own. same_key own key ≡ false) (map (λ (v : Version). v.key) s.versions) (map (λ (e : List ℕ × Intent). e.0) s.intents) a) in
    let none : at same_key key s.intents ≡ None = at-none key s.intents intents in
    let own : own_value id epoch seq key s ≡ None =
    ap (λ o. option_and_then (value_by seq) (kept_if (λ i. i.meta.epoch == epoch) (kept_if (λ i. same_txn i.meta.id id) o))) none in
    let seen : visible key ts s.versions ≡ None = ap (λ vs. fold later None vs) (no-version key ts s.versions versions) in
    ap (λ o. (found_first o (visible key ts s.versions)).1) own ∙ ap (λ o. (found_first None o).1) seen

-- ---- the rows of a piece

-- the rows that a scan finds have at each key of its span what a get finds there
pub scan-shows : (id : TxnId) (epoch seq ts : ℕ) (span : Span) (s : RangeState) → Show span (λ key. (found_at id epoch seq ts key s).1) (map plain (rows_in id epoch seq ts span s))
scan-shows id epoch seq ts span s =
    subst (Show span look) (sym (plain-rows (λ key. found_at id epoch seq ts key s) (keys_in span s)))
    (record {
      lie = record {
        sorted = rises-sorted (slice_cmp nat_cmp) (rows_at look (keys_in span s)) (rows-rise look (keys_in span s) (keys-sorted span s));
        inside = each-rows look (λ key. contains span key ≡ true) (keys_in span s) (keys-inside span s);
      };
      has = λ key inside. elim (there-or-not key (all_keys s)) [
        | inl c ↦ rows-at look key (keys_in span s) (keys-there span s key inside c)
        | inr a ↦ let none : look key ≡ None = finds-none id epoch seq ts key s a in nothing-at look key (keys_in span s) none ∙ sym none
      ];
    })
  where
    look : List ℕ → Option (List ℕ)
    look key = (found_at id epoch seq ts key s).1
