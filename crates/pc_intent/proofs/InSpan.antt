-- The intents at the keys of a span: those between its bounds.
use Rattle.std.proofs.Common.{◌≡◌, ℕ, Bool, true, false, ◌&&◌, ◌||◌, cond, List, [], ◌∷◌, ◌++◌, filter, find, fold, map, Option, None, Some, refl, sym, ap, ◌∙◌}
use Rattle.std.specs.BTreeMap.Range.{entries_between}
use Rattle.std.specs.Cmp.Lexicographic.{slice_cmp}
use Rattle.std.specs.declared.ops.Bound.{Bound}
use Rattle.std.specs.List.{list_any}
use Rattle.std.specs.Option.{is_some}
use Rattle.std.specs.Ordering.{nat_cmp}
use Rattle.std.specs.Prelude.{MatchOption}
use Rattle.pc_base.specs.declared.span.Span.{Span}
use Rattle.pc_base.specs.Span.{contains}
use Rattle.pc_base.specs.SpanBounds.{AreBoundsOf}

-- the entries between a span's bounds are those whose keys it has
pub entries_of_span : {X : Type 0} (span : Span) (low high : Bound (List ℕ)) (es : List (List ℕ × X)) → AreBoundsOf span low high → entries_between (slice_cmp nat_cmp) low high es ≡ filter (λ e. contains span e.0) es
entries_of_span span low high [] bounds = refl
entries_of_span span low high (e ∷ es) bounds =
    ap (λ b. cond b (e ∷ entries_between (slice_cmp nat_cmp) low high es) (entries_between (slice_cmp nat_cmp) low high es)) (bounds.keys e.0)
    ∙ ap (λ es. cond (contains span e.0) (e ∷ es) es) (entries_of_span span low high es bounds)

-- the first that passes among those that pass another test
pub found_kept : {X : Type 0} (p q : X → Bool) (xs : List X) → find q (filter p xs) ≡ find (λ x. p x && q x) xs
found_kept p q [] = refl
found_kept p q (x ∷ xs) = by (p x) (found_kept p q xs)
  where
    by : (b : Bool) → find q (filter p xs) ≡ find (λ x. p x && q x) xs → find q (cond b (x ∷ filter p xs) (filter p xs)) ≡ cond (b && q x) (Some x) (find (λ x. p x && q x) xs)
    by true rest = ap (λ o. cond (q x) (Some x) o) rest
    by false rest = rest

-- the keys of those whose keys pass
pub keys_kept : {X : Type 0} (p : List ℕ → Bool) (es : List (List ℕ × X)) → map (λ e. e.0) (filter (λ e. p e.0) es) ≡ filter p (map (λ e. e.0) es)
keys_kept p [] = refl
keys_kept p (e ∷ es) = by (p e.0) (keys_kept p es)
  where
    by : (b : Bool) → map (λ e. e.0) (filter (λ e. p e.0) es) ≡ filter p (map (λ e. e.0) es)
        → map (λ e. e.0) (cond b (e ∷ filter (λ e. p e.0) es) (filter (λ e. p e.0) es)) ≡ cond b (e.0 ∷ filter p (map (λ e. e.0) es)) (filter p (map (λ e. e.0) es))
    by true rest = ap (λ ks. e.0 ∷ ks) rest
    by false rest = rest

some-first : {X : Type 0} (test : X → Bool) (xs : List X) (first : X) (rest : List X) → filter test xs ≡ first ∷ rest → list_any test xs ≡ true
some-first test [] first rest is = absurd cc
some-first test (x ∷ xs) first rest is = by (test x) is (λ later. some-first test xs first rest later)
  where
    by : (b : Bool) → cond b (x ∷ filter test xs) (filter test xs) ≡ first ∷ rest → (filter test xs ≡ first ∷ rest → list_any test xs ≡ true) → (b || list_any test xs) ≡ true
    by true is later = refl
    by false is later = later is

none-first : {X : Type 0} (test : X → Bool) (xs : List X) → filter test xs ≡ [] → list_any test xs ≡ false
none-first test [] is = refl
none-first test (x ∷ xs) is = by (test x) is (λ later. none-first test xs later)
  where
    by : (b : Bool) → cond b (x ∷ filter test xs) (filter test xs) ≡ [] → (filter test xs ≡ [] → list_any test xs ≡ false) → (b || list_any test xs) ≡ false
    by true is later = absurd cc
    by false is later = later is

-- one is there if a first one comes
pub there_if_first : {R X : Type 0} (shows : R → X) (test : X → Bool) (xs all left : List X) (first : Option R) → all ≡ filter test xs → MatchOption first ((all ≡ []) × (left ≡ [])) (λ r. all ≡ shows r ∷ left) → is_some first ≡ list_any test xs
there_if_first shows test xs all left None is h = sym (none-first test xs (sym is ∙ h.0))
there_if_first shows test xs all left (Some r) is h = sym (some-first test xs (shows r) left (sym is ∙ h))

-- the keys with one more
pub with_key : {R X K : Type 0} (put : List K → K → List K) (shows : R → K × X) (front : List K) (ys : List R) (y : R) → fold put front (map (λ (e : K × X). e.0) (map shows (ys ++ y ∷ []))) ≡ put (fold put front (map (λ (e : K × X). e.0) (map shows ys))) (shows y).0
with_key put shows front [] y = refl
with_key put shows front (x ∷ ys) y = with_key put shows (put front (shows x).0) ys y
