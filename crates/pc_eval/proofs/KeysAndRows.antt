-- The keys and the rows of a scan, one element further; and the keys of versions and intents taken together.
use Rattle.std.proofs.Common.{◌≡◌, ℕ, ◌+◌, ◌<◌, List, [], ◌∷◌, ◌++◌, length, take, filter, fold, map, slice_index_or, Option, refl, ap, ◌∙◌, arith}
use Rattle.std.specs.declared.cmp.Ordering.{Ordering}
use Rattle.std.specs.BTreeMap.{insert_entry}
use Rattle.std.specs.BTreeSet.{insert_key}
use Rattle.std.specs.Ordering.{nat_cmp}
use Rattle.std.specs.Cmp.Lexicographic.{slice_cmp}
use Rattle.std.proofs.lemmas.Grind.{common_steps}
use Rattle.std.specs.List.{filter_map}
use Rattle.std.specs.Option.{option_to_list}
use Rattle.std.proofs.lemmas.List.Elements.{filter-append, filter_map-append}
use Rattle.std.proofs.lemmas.List.Sums.{fold-append}
use Rattle.pc_base.specs.declared.span.Span.{Span}
use Rattle.pc_base.specs.Span.{contains}
use Rattle.pc_world.specs.RangeState.{RangeState}
use Rattle.pc_world.specs.Evaluation.Scan.{keys_in}

module _ {K : Type 0} (cmp : K → K → Ordering) where
  keys-inserted : (k : K) (es : List (K × K)) → map (λ e. e.0) (insert_entry cmp es k k) ≡ insert_key cmp (map (λ e. e.0) es) k
  keys-inserted k [] = refl
  keys-inserted k (e ∷ es) = grind (arith, common_steps, keys-inserted k es)

  keys-folded : (ks : List K) (es : List (K × K)) → map (λ e. e.0) (fold (λ (sorted : List (K × K)) (e : K × K). insert_entry cmp sorted e.0 e.1) es (map (λ k. (k, k)) ks)) ≡ fold (insert_key cmp) (map (λ e. e.0) es) ks
  keys-folded [] es = refl
  keys-folded (k ∷ ks) es = keys-folded ks (insert_entry cmp es k k) ∙ ap (λ sorted. fold (insert_key cmp) sorted ks) (keys-inserted k es)

pub rows_more : {A B : Type 0} (row : A → Option B) (xs : List A) (x : A) → filter_map row (xs ++ x ∷ []) ≡ filter_map row xs ++ option_to_list (row x)
rows_more row xs x = grind (arith, common_steps, filter_map-append)

pub mapped_more : {X A B : Type 0} (row : A → Option B) (now : X → A) (xs : List X) (i : ℕ) (x : X) → i < length xs → x ≡ slice_index_or xs i x → filter_map row (map now (take (i + 1) xs)) ≡ filter_map row (map now (take i xs)) ++ option_to_list (row (now x))
mapped_more row now xs i x h e = grind (arith, common_steps, filter_map-append)

pub keys_of_both : (span : Span) (s : RangeState) → keys_in span s ≡ fold (insert_key (slice_cmp nat_cmp)) (fold (insert_key (slice_cmp nat_cmp)) [] (filter (contains span) (map (λ v. v.key) s.versions))) (filter (contains span) (map (λ e. e.0) s.intents))
keys_of_both span s =
    keys-folded (slice_cmp nat_cmp) (filter (contains span) (map (λ v. v.key) s.versions ++ map (λ e. e.0) s.intents)) []
    ∙ ap (λ ks. fold (insert_key (slice_cmp nat_cmp)) [] ks) (filter-append (contains span) (map (λ v. v.key) s.versions) (map (λ e. e.0) s.intents))
    ∙ fold-append (insert_key (slice_cmp nat_cmp)) [] (filter (contains span) (map (λ v. v.key) s.versions)) (filter (contains span) (map (λ e. e.0) s.intents))
