-- Where no intent stands in a span, a scan's rows are those of the versions that it sees.
use Rattle.std.proofs.Common.{◌≡◌, ℕ, Bool, true, false, ◌||◌, cond, if◌then◌else◌, nat_le, nat_lt, ◌&&◌, ◌==◌, List, [], ◌∷◌, ◌++◌, filter, find, fold, map, Option, None, Some, refl, sym, ap, ◌∙◌}
use Rattle.std.proofs.lemmas.Map.Lookups.{exact_bytes}
use Rattle.std.specs.BTreeSet.{insert_key}
use Rattle.std.specs.Cmp.Lexicographic.{slice_cmp}
use Rattle.std.specs.declared.cmp.Ordering.{Ordering}
use Rattle.std.specs.declared.cmp.Ordering.TheVariants.{Less, Equal, Greater}
use Rattle.std.specs.List.{AllByRecursion as Each, cons_option, filter_map, list_any}
use Rattle.std.specs.Option.{IfSome, option_and_then, option_map}
use Rattle.std.specs.Ordering.{is_eq, match_ordering, nat_cmp}
use Rattle.pc_base.specs.declared.span.Span.{Span}
use Rattle.pc_base.specs.declared.transaction.TxnId.{TxnId}
use Rattle.pc_base.specs.declared.version.Version.{Version}
use Rattle.pc_base.specs.Span.{contains, same_key}
use Rattle.pc_base.specs.Transaction.{same_txn}
use Rattle.pc_base.specs.Versions.{later, visible}
use Rattle.pc_eval.proofs.KeysAndRows.{keys_of_both}
use Rattle.pc_eval.specs.RowOf.{row_of}
use Rattle.pc_mvcc.specs.VisibleIn.{visible_in, written_keys}
use Rattle.pc_proto.specs.declared.record.Intent.{Intent}
use Rattle.pc_proto.specs.declared.reply.Origin.{Origin}
use Rattle.pc_proto.specs.declared.reply.Origin.TheVariants.{At}
use Rattle.pc_proto.specs.Intents.{intent_at, kept_if, value_by}
use Rattle.pc_world.specs.Evaluation.Get.{found_at, found_first, version_found}
use Rattle.pc_world.specs.Evaluation.Scan.{keys_in, row_found, rows_in}
use Rattle.pc_world.specs.RangeState.{RangeState}

equal-only : (o : Ordering) → is_eq o ≡ true → o ≡ Equal
equal-only Less h = absurd cc
equal-only Equal h = refl
equal-only Greater h = absurd cc

-- a span without intents
none-there : (span : Span) (key : List ℕ) (es : List (List ℕ × Intent)) → contains span key ≡ true → list_any (λ e. contains span e.0) es ≡ false → intent_at key es ≡ None
none-there span key [] inside none = refl
none-there span key (e ∷ es) inside none = by (contains span e.0) refl none (same_key e.0 key) refl (λ rest. none-there span key es inside rest)
  where
    by : (b : Bool) → contains span e.0 ≡ b → (b || list_any (λ e. contains span e.0) es) ≡ false → (c : Bool) → same_key e.0 key ≡ c → (list_any (λ e. contains span e.0) es ≡ false → intent_at key es ≡ None)
        → option_map (λ e. e.1) (cond c (Some e) (find (λ e. same_key e.0 key) es)) ≡ None
    by true is h c same rest = absurd cc
    by false is h false same rest = rest h
    by false is h true same rest =
        let one : e.0 ≡ key = exact_bytes e.0 key (equal-only (slice_cmp nat_cmp e.0 key) same) in
        let clash : true ≡ false = sym inside ∙ (sym (ap (contains span) one) ∙ is) in
        absurd cc

-- no key of a span without intents is kept of them
no-keys : (span : Span) (es : List (List ℕ × Intent)) → list_any (λ e. contains span e.0) es ≡ false → filter (contains span) (map (λ e. e.0) es) ≡ []
no-keys span [] none = refl
no-keys span (e ∷ es) none = by (contains span e.0) none (λ rest. no-keys span es rest)
  where
    by : (b : Bool) → (b || list_any (λ e. contains span e.0) es) ≡ false → (list_any (λ e. contains span e.0) es ≡ false → filter (contains span) (map (λ e. e.0) es) ≡ []) → cond b (e.0 ∷ filter (contains span) (map (λ e. e.0) es)) (filter (contains span) (map (λ e. e.0) es)) ≡ []
    by true h rest = absurd cc
    by false h rest = rest h

-- The key of what is seen.
IsOf : List ℕ → Option Version → Type 0
IsOf key best = IfSome best (λ v. v.key ≡ key)

later-of : (key : List ℕ) (best : Option Version) (v : Version) → IsOf key best → v.key ≡ key → IsOf key (later best v)
unfolding IsOf
later-of key None v h k = k
later-of key (Some b) v h k = by (nat_lt b.ts v.ts)
  where
    by : (c : Bool) → IfSome (if c then Some v else Some b) (λ v. v.key ≡ key)
    by true = k
    by false = h

seen-of : (key : List ℕ) (ts : ℕ) (best : Option Version) (vs : List Version) → IsOf key best → IsOf key (fold later best (filter (λ v. same_key v.key key && nat_le v.ts ts) vs))
seen-of key ts best [] h = h
seen-of key ts best (v ∷ vs) h = by (same_key v.key key) refl (nat_le v.ts ts) (λ best h. seen-of key ts best vs h)
  where
    by : (b : Bool) → same_key v.key key ≡ b → (c : Bool) → ((best : Option Version) → IsOf key best → IsOf key (fold later best (filter (λ v. same_key v.key key && nat_le v.ts ts) vs)))
        → IsOf key (fold later best (cond (b && c) (v ∷ filter (λ v. same_key v.key key && nat_le v.ts ts) vs) (filter (λ v. same_key v.key key && nat_le v.ts ts) vs)))
    by false is c rest = rest best h
    by true is false rest = rest best h
    by true is true rest = rest (later best v) (later-of key best v h (exact_bytes v.key key (equal-only (slice_cmp nat_cmp v.key key) is)))

-- each key that is put in passes
each-put : (P : List ℕ → Type 0) (ks : List (List ℕ)) (k : List ℕ) → Each P ks → P k → Each P (insert_key (slice_cmp nat_cmp) ks k)
each-put P [] k h own = (own, tt)
each-put P (x ∷ xs) k h own = by (slice_cmp nat_cmp k x) (each-put P xs k h.1 own)
  where
    by : (o : Ordering) → Each P (insert_key (slice_cmp nat_cmp) xs k) → Each P (match_ordering o (k ∷ x ∷ xs) (x ∷ xs) (x ∷ insert_key (slice_cmp nat_cmp) xs k))
    by Less rest = (own, h)
    by Equal rest = h
    by Greater rest = (h.0, rest)

each-kept : (span : Span) (keys more : List (List ℕ)) → Each (λ k. contains span k ≡ true) keys → Each (λ k. contains span k ≡ true) (fold (insert_key (slice_cmp nat_cmp)) keys (filter (contains span) more))
each-kept span keys [] h = h
each-kept span keys (k ∷ more) h = by (contains span k) refl (λ keys h. each-kept span keys more h)
  where
    by : (b : Bool) → contains span k ≡ b → ((keys : List (List ℕ)) → Each (λ k. contains span k ≡ true) keys → Each (λ k. contains span k ≡ true) (fold (insert_key (slice_cmp nat_cmp)) keys (filter (contains span) more)))
        → Each (λ k. contains span k ≡ true) (fold (insert_key (slice_cmp nat_cmp)) keys (cond b (k ∷ filter (contains span) more) (filter (contains span) more)))
    by true is rest = rest (insert_key (slice_cmp nat_cmp) keys k) (each-put (λ k. contains span k ≡ true) keys k h is)
    by false is rest = rest keys h

module _ (id : TxnId) (epoch seq ts : ℕ) (span : Span) (s : RangeState) (none : list_any (λ e. contains span e.0) s.intents ≡ false) where
  row-at : (key : List ℕ) → contains span key ≡ true → row_found key (found_at id epoch seq ts key s) ≡ row_found key (version_found (visible key ts s.versions))
  row-at key inside =
      ap (λ (i : Option Intent). row_found key (found_first (option_and_then (value_by seq) (kept_if (λ (j : Intent). j.meta.epoch == epoch) (kept_if (λ (j : Intent). same_txn j.meta.id id) i))) (visible key ts s.versions)))
      (none-there span key s.intents inside none)

  row-seen : (key : List ℕ) (seen : Option Version) → IsOf key seen → (rows : List (List ℕ × Origin × List ℕ)) → cons_option (row_found key (version_found seen)) rows ≡ filter_map row_of (cons_option seen []) ++ rows
  unfolding IsOf
  row-seen key None own rows = refl
  row-seen key (Some v) own rows = ap (λ k. cons_option (row_found k (At v.ts, v.value)) rows) (sym own) ∙ by v.value
    where
      by : (o : Option (List ℕ)) → cons_option (row_found v.key (At v.ts, o)) rows ≡ cons_option (row_found v.key (At v.ts, o)) [] ++ rows
      by None = refl
      by (Some value) = refl

  one-more : (seen : Option Version) (rest : List Version) → filter_map row_of (cons_option seen rest) ≡ filter_map row_of (cons_option seen []) ++ filter_map row_of rest
  one-more None rest = refl
  one-more (Some v) rest = by (row_of v)
    where
      by : (o : Option (List ℕ × Origin × List ℕ)) → cons_option o (filter_map row_of rest) ≡ cons_option o [] ++ filter_map row_of rest
      by None = refl
      by (Some row) = refl

  rows-at : (keys : List (List ℕ)) → Each (λ k. contains span k ≡ true) keys → filter_map (λ key. row_found key (found_at id epoch seq ts key s)) keys ≡ filter_map row_of (filter_map (λ key. visible key ts s.versions) keys)
  unfolding IsOf
  rows-at [] inside = refl
  rows-at (key ∷ keys) inside =
      ap (λ row. cons_option row (filter_map (λ key. row_found key (found_at id epoch seq ts key s)) keys)) (row-at key inside.0)
      ∙ (row-seen key (visible key ts s.versions) (seen-of key ts None s.versions tt) (filter_map (λ key. row_found key (found_at id epoch seq ts key s)) keys)
      ∙ (ap (λ rows. filter_map row_of (cons_option (visible key ts s.versions) []) ++ rows) (rows-at keys inside.1)
      ∙ sym (one-more (visible key ts s.versions) (filter_map (λ key. visible key ts s.versions) keys))))

  pub rows_of_seen : filter_map row_of (visible_in span ts s.versions) ≡ rows_in id epoch seq ts span s
  rows_of_seen =
      let same : keys_in span s ≡ written_keys span s.versions = keys_of_both span s ∙ ap (fold (insert_key (slice_cmp nat_cmp)) (written_keys span s.versions)) (no-keys span s.intents none) in
      sym (ap (filter_map (λ key. row_found key (found_at id epoch seq ts key s))) same ∙ rows-at (written_keys span s.versions) (each-kept span [] (map (λ v. v.key) s.versions) tt))
