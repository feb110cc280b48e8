-- What a read sees of each chain in a span, chain after chain.
use Rattle.std.proofs.Common.{◌≡◌, ℕ, zero, suc, Bool, true, false, cond, nat_le, List, [], ◌∷◌, ◌++◌, filter, fold, map, Option, None, Some, slice_get, refl, sym, ap, subst, ◌∙◌}
use Rattle.std.proofs.lemmas.Cmp.{nat_list_cmp_total, tied_itself}
use Rattle.std.proofs.lemmas.List.{append_assoc, append-nil, map-append}
use Rattle.std.proofs.lemmas.List.Elements.{filter_map-append}
use Rattle.std.specs.BTreeMap.{is_at}
use Rattle.std.specs.BTreeSet.{insert_key}
use Rattle.std.specs.Cmp.Lexicographic.{slice_cmp}
use Rattle.std.specs.declared.cmp.Ordering.{Ordering}
use Rattle.std.specs.declared.cmp.Ordering.TheVariants.{Less, Equal, Greater}
use Rattle.std.specs.Global.{Vec}
use Rattle.std.specs.List.{AllByRecursion as Each, cons_option, filter_map}
use Rattle.std.specs.List.Sorted.{IsStrictlySortedBy}
use Rattle.std.specs.Map.{keys_of, lookup}
use Rattle.std.specs.Ordering.{is_eq, match_ordering, nat_cmp, ordering_reverse}
use Rattle.pc_base.specs.declared.span.Span.{Span}
use Rattle.pc_base.specs.declared.version.Version.{Version}
use Rattle.pc_base.specs.Span.{contains, same_key}
use Rattle.pc_base.specs.Versions.{later, visible}
use Rattle.pc_mvcc.proofs.Joined.{Chain, all_in_chain, chain_of, filtered_twice}
use Rattle.pc_mvcc.proofs.Spans.{keys_of_chains}
use Rattle.pc_mvcc.specs.Chains.{AreChains, IsChain, joined, with_key_of}
use Rattle.pc_mvcc.specs.VisibleIn.{visible_in}

turned-less : (o : Ordering) → o ≡ Less → is_eq (ordering_reverse o) ≡ false
turned-less Less h = refl
turned-less Equal h = absurd cc
turned-less Greater h = absurd cc

greater-only : (o : Ordering) → o ≡ Less → ordering_reverse o ≡ Greater
greater-only Less h = refl
greater-only Equal h = absurd cc
greater-only Greater h = absurd cc

-- what holds of each element holds of the one at a place
each_at : {X : Type 0} (P : X → Type 0) (xs : List X) (i : ℕ) (x : X) → Each P xs → slice_get xs i ≡ Some x → P x
each_at P [] i x h is = absurd cc
each_at P (y ∷ ys) zero x h is = let same : y ≡ x = cc in subst P same h.0
each_at P (y ∷ ys) (suc i) x h is = each_at P ys i x h.1 is

-- each chain is found under its key
found-each : (es : List Chain) → IsStrictlySortedBy (slice_cmp nat_cmp) (keys_of es) → Each (λ e. lookup (is_at (slice_cmp nat_cmp e.0)) es ≡ Some e.1) es
unfolding IsStrictlySortedBy
found-each [] sorted = tt
found-each (e ∷ es) sorted =
    (ap (λ o. cond (is_eq o) (Some e.1) (lookup (is_at (slice_cmp nat_cmp e.0)) es)) (tied_itself nat_list_cmp_total e.0), behind es sorted.0 (found-each es sorted.1))
  where
    behind : (fs : List Chain) → Each (λ k. slice_cmp nat_cmp e.0 k ≡ Less) (keys_of fs) → Each (λ f. lookup (is_at (slice_cmp nat_cmp f.0)) es ≡ Some f.1) fs → Each (λ f. lookup (is_at (slice_cmp nat_cmp f.0)) (e ∷ es) ≡ Some f.1) fs
    behind [] above found = tt
    behind (f ∷ fs) above found =
        (ap (λ b. cond b (Some e.1) (lookup (is_at (slice_cmp nat_cmp f.0)) es)) (ap is_eq (nat_list_cmp_total.antisymm f.0 e.0) ∙ turned-less (slice_cmp nat_cmp e.0 f.0) above.0) ∙ found.0, behind fs above.1 found.1)

-- the keys of the chains that have a version
abbrev put-on : List Version → List ℕ → List (List ℕ) → List (List ℕ)
put-on [] key keys = keys
put-on (v ∷ vs) key keys = key ∷ keys

abbrev filled : List Chain → List (List ℕ)
filled [] = []
filled (e ∷ es) = put-on e.1.items e.0 (filled es)

-- a key that is above all others goes to the end
at-end : (front : List (List ℕ)) (key : List ℕ) → Each (λ j. slice_cmp nat_cmp j key ≡ Less) front → insert_key (slice_cmp nat_cmp) front key ≡ front ++ key ∷ []
at-end [] key below = refl
at-end (j ∷ front) key below =
    ap (λ o. match_ordering o (key ∷ j ∷ front) (j ∷ front) (j ∷ insert_key (slice_cmp nat_cmp) front key)) (nat_list_cmp_total.antisymm key j ∙ greater-only (slice_cmp nat_cmp j key) below.0)
    ∙ ap (λ ks. j ∷ ks) (at-end front key below.1)

-- Each key of the front is below each chain's.
IsInFront : List (List ℕ) → List Chain → Type 0
IsInFront front es = Each (λ j. Each (λ k. slice_cmp nat_cmp j k ≡ Less) (keys_of es)) front

first-of-each : (front : List (List ℕ)) (e : Chain) (es : List Chain) → IsInFront front (e ∷ es) → Each (λ j. slice_cmp nat_cmp j e.0 ≡ Less) front
unfolding IsInFront
first-of-each [] e es h = tt
first-of-each (j ∷ front) e es h = let own = h.0 in (own.0, first-of-each front e es h.1)

rest-of-each : (front : List (List ℕ)) (e : Chain) (es : List Chain) → IsInFront front (e ∷ es) → IsInFront front es
unfolding IsInFront
rest-of-each [] e es h = tt
rest-of-each (j ∷ front) e es h = let own = h.0 in (own.1, rest-of-each front e es h.1)

with-one : (front : List (List ℕ)) (key : List ℕ) (es : List Chain) → IsInFront front es → Each (λ k. slice_cmp nat_cmp key k ≡ Less) (keys_of es) → IsInFront (front ++ key ∷ []) es
unfolding IsInFront
with-one [] key es h above = (above, tt)
with-one (j ∷ front) key es h above = (h.0, with-one front key es h.1 above)

keys-in-order : (front : List (List ℕ)) (es : List Chain) → IsStrictlySortedBy (slice_cmp nat_cmp) (keys_of es) → IsInFront front es → fold (λ keys (e : Chain). with_key_of e.0 e.1.items keys) front es ≡ front ++ filled es
unfolding IsStrictlySortedBy
keys-in-order front [] sorted h = sym (append-nil front)
keys-in-order front (e ∷ es) sorted h = by e.1.items (λ front h. keys-in-order front es sorted.1 h)
  where
    by : (vs : List Version) → ((front : List (List ℕ)) → IsInFront front es → fold (λ keys (e : Chain). with_key_of e.0 e.1.items keys) front es ≡ front ++ filled es) → fold (λ keys (e : Chain). with_key_of e.0 e.1.items keys) (with_key_of e.0 vs front) es ≡ front ++ put-on vs e.0 (filled es)
    by [] rest = rest front (rest-of-each front e es h)
    by (v ∷ vs) rest =
        ap (λ keys. fold (λ keys (e : Chain). with_key_of e.0 e.1.items keys) keys es) (at-end front e.0 (first-of-each front e es h))
        ∙ (rest (front ++ e.0 ∷ []) (with-one front e.0 es (rest-of-each front e es h) sorted.0)
        ∙ append_assoc front (e.0 ∷ []) (filled es))

-- what holds of each chain holds of each in the span
each-kept : (P : Chain → Type 0) (test : Chain → Bool) (es : List Chain) → Each P es → Each P (filter test es)
each-kept P test [] h = tt
each-kept P test (e ∷ es) h = by (test e) (each-kept P test es h.1)
  where
    by : (b : Bool) → Each P (filter test es) → Each P (cond b (e ∷ filter test es) (filter test es))
    by true rest = (h.0, rest)
    by false rest = rest

keys-kept : (P : List ℕ → Type 0) (test : Chain → Bool) (es : List Chain) → Each P (keys_of es) → Each P (keys_of (filter test es))
keys-kept P test [] h = tt
keys-kept P test (e ∷ es) h = by (test e) (keys-kept P test es h.1)
  where
    by : (b : Bool) → Each P (keys_of (filter test es)) → Each P (keys_of (cond b (e ∷ filter test es) (filter test es)))
    by true rest = (h.0, rest)
    by false rest = rest

sorted-kept : (test : Chain → Bool) (es : List Chain) → IsStrictlySortedBy (slice_cmp nat_cmp) (keys_of es) → IsStrictlySortedBy (slice_cmp nat_cmp) (keys_of (filter test es))
unfolding IsStrictlySortedBy
sorted-kept test [] sorted = tt
sorted-kept test (e ∷ es) sorted = by (test e) (keys-kept (λ k. slice_cmp nat_cmp e.0 k ≡ Less) test es sorted.0) (sorted-kept test es sorted.1)
  where
    by : (b : Bool) → Each (λ k. slice_cmp nat_cmp e.0 k ≡ Less) (keys_of (filter test es)) → IsStrictlySortedBy (slice_cmp nat_cmp) (keys_of (filter test es))
        → IsStrictlySortedBy (slice_cmp nat_cmp) (keys_of (cond b (e ∷ filter test es) (filter test es)))
    by true above rest = (above, rest)
    by false above rest = rest

module _ (see : List ℕ → Option Version) where
  -- of a chain without versions nothing is seen
  seen-of-filled : (es : List Chain) → Each (λ e. e.1.items ≡ [] → see e.0 ≡ None) es → filter_map see (keys_of es) ≡ filter_map see (filled es)
  seen-of-filled [] h = refl
  seen-of-filled (e ∷ es) h = by e.1.items h.0 (seen-of-filled es h.1)
    where
      by : (vs : List Version) → (vs ≡ [] → see e.0 ≡ None) → filter_map see (keys_of es) ≡ filter_map see (filled es) → cons_option (see e.0) (filter_map see (keys_of es)) ≡ filter_map see (put-on vs e.0 (filled es))
      by [] none rest = ap (λ o. cons_option o (filter_map see (keys_of es))) (none refl) ∙ rest
      by (v ∷ vs) none rest = ap (cons_option (see e.0)) rest

module _ (span : Span) (ts : ℕ) (es : List Chain) (chains : AreChains es) where
  -- what a read sees of a key stands in its chain
  in-chain : (key : List ℕ) → visible key ts (joined es) ≡ fold later None (filter (λ v. nat_le v.ts ts) (chain_of (lookup (is_at (slice_cmp nat_cmp key)) es)))
  in-chain key =
      ap (fold later None) (sym (filtered_twice (λ (v : Version). same_key v.key key) (λ (v : Version). nat_le v.ts ts) (joined es)))
      ∙ ap (λ vs. fold later None (filter (λ (v : Version). nat_le v.ts ts) vs)) (all_in_chain key es chains)

  empty-unseen : (fs : List Chain) → Each (λ e. lookup (is_at (slice_cmp nat_cmp e.0)) es ≡ Some e.1) fs → Each (λ e. e.1.items ≡ [] → visible e.0 ts (joined es) ≡ None) fs
  empty-unseen [] found = tt
  empty-unseen (f ∷ fs) found =
      (λ empty. in-chain f.0 ∙ (ap (λ (o : Option (Vec Version)). fold later None (filter (λ (v : Version). nat_le v.ts ts) (chain_of o))) found.0 ∙ ap (λ vs. fold later None (filter (λ (v : Version). nat_le v.ts ts) vs)) empty), empty-unseen fs found.1)

  -- each chain of the span is one of its key
  pub chain_at : (i : ℕ) (e : Chain) → slice_get (filter (λ e. contains span e.0) es) i ≡ Some e → IsChain e.0 e.1.items
  chain_at i e is =
      each_at (λ e. IsChain e.0 e.1.items) (filter (λ (e : Chain). contains span e.0) es) i e (each-kept (λ e. IsChain e.0 e.1.items) (λ e. contains span e.0) es chains.each) is

  -- and what a read sees of its key stands in it
  pub visible_at : (i : ℕ) (e : Chain) → slice_get (filter (λ e. contains span e.0) es) i ≡ Some e → visible e.0 ts (joined es) ≡ fold later None (filter (λ v. nat_le v.ts ts) e.1.items)
  visible_at i e is =
      in-chain e.0
      ∙ ap (λ (o : Option (Vec Version)). fold later None (filter (λ (v : Version). nat_le v.ts ts) (chain_of o)))
      (each_at (λ e. lookup (is_at (slice_cmp nat_cmp e.0)) es ≡ Some e.1) (filter (λ (e : Chain). contains span e.0) es) i e
      (each-kept (λ e. lookup (is_at (slice_cmp nat_cmp e.0)) es ≡ Some e.1) (λ e. contains span e.0) es (found-each es chains.ordered)) is)

  -- what is seen of the span's chains is what is seen of its keys
  pub seen_in_span : filter_map (λ key. visible key ts (joined es)) (keys_of (filter (λ e. contains span e.0) es)) ≡ visible_in span ts (joined es)
  unfolding IsInFront
  seen_in_span =
      let inside : List Chain = filter (λ e. contains span e.0) es in
      seen-of-filled (λ key. visible key ts (joined es)) inside
      (each-kept (λ e. e.1.items ≡ [] → visible e.0 ts (joined es) ≡ None) (λ e. contains span e.0) es (empty-unseen es (found-each es chains.ordered)))
      ∙ ap (filter_map (λ key. visible key ts (joined es)))
      (sym (keys-in-order [] inside (sorted-kept (λ e. contains span e.0) es chains.ordered) tt) ∙ keys_of_chains span [] es chains.each)

module _ {R P : Type 0} (now : R → Version) (shows : P → Chain) (see : List ℕ → Option Version) (ys : List P) (y : P) where
  grown : filter_map see (keys_of (map shows (ys ++ y ∷ []))) ≡ filter_map see (keys_of (map shows ys)) ++ cons_option (see (shows y).0) []
  grown =
      ap (λ es. filter_map see (keys_of es)) (map-append shows ys (y ∷ []))
      ∙ (ap (filter_map see) (map-append (λ (e : Chain). e.0) (map shows ys) (shows y ∷ [])) ∙ filter_map-append see (keys_of (map shows ys)) ((shows y).0 ∷ []))

  -- a chain more of which a version is seen, and one of which none is
  pub seen_with : (seen more : List R) (v : R) → map now seen ≡ filter_map see (keys_of (map shows ys)) → see (shows y).0 ≡ Some (now v) → more ≡ seen ++ v ∷ []
      → map now more ≡ filter_map see (keys_of (map shows (ys ++ y ∷ [])))
  seen_with seen more v so-far sees is =
      ap (map now) is
      ∙ (map-append now seen (v ∷ [])
      ∙ (ap (λ xs. xs ++ now v ∷ []) so-far ∙ (ap (λ o. filter_map see (keys_of (map shows ys)) ++ cons_option o []) (sym sees) ∙ sym grown)))

  pub seen_without : (seen : List R) → map now seen ≡ filter_map see (keys_of (map shows ys)) → see (shows y).0 ≡ None → map now seen ≡ filter_map see (keys_of (map shows (ys ++ y ∷ [])))
  seen_without seen so-far none =
      so-far ∙ (sym (append-nil (filter_map see (keys_of (map shows ys)))) ∙ (ap (λ o. filter_map see (keys_of (map shows ys)) ++ cons_option o []) (sym none) ∙ sym grown))
