-- What lies in a bag under the number of the first stray that is due.
use Rattle.std.proofs.Common.{◌≡◌, ℕ, Bool, List, Option, None, Some, find, option_map, refl, sym, ap, subst, ◌∙◌}
use Rattle.std.proofs.lemmas.Cmp.{eq_by_cmp_equiv, nat_cmp_total}
use Rattle.std.proofs.lemmas.List.Folds.{find_at}
use Rattle.std.proofs.lemmas.Map.Entries.{lookup_from_place}
use Rattle.std.proofs.lemmas.Map.Keys.{IsDistinct-from_sorted}
use Rattle.std.specs.BTreeMap.{is_at}
use Rattle.std.specs.List.Sorted.{IsStrictlySortedBy}
use Rattle.std.specs.Map.{keys_of, lookup}
use Rattle.std.specs.Ordering.{eq_by_cmp, nat_cmp}

module _ {X : Type 0} (p : ℕ × X → Bool) (bag : List (ℕ × X)) where
  at-first : IsStrictlySortedBy nat_cmp (keys_of bag) → (o : Option (ℕ × X)) → find p bag ≡ o → (number : ℕ) → option_map (λ e. e.0) o ≡ Some number → lookup (is_at (nat_cmp number)) bag ≡ option_map (λ e. e.1) o
  at-first sorted None is number first = absurd cc
  at-first sorted (Some e) is number first =
      let same : e.0 ≡ number = cc in
      subst (λ (n : ℕ). lookup (is_at (nat_cmp n)) bag ≡ Some e.1) same
      (lookup_from_place {eq = eq_by_cmp nat_cmp} (eq_by_cmp_equiv nat_cmp_total) bag _ e.0 e.1 (IsDistinct-from_sorted nat_cmp (keys_of bag) sorted) (sym (find_at p bag) ∙ is))

  -- under the number of the first entry that passes lies its value
  pub under-first : IsStrictlySortedBy nat_cmp (keys_of bag) → (number : ℕ) → option_map (λ e. e.0) (find p bag) ≡ Some number → lookup (is_at (nat_cmp number)) bag ≡ option_map (λ e. e.1) (find p bag)
  under-first sorted number first = at-first sorted (find p bag) refl number first

-- a part of what is taken, if something is
pub part-taken : {A B C : Type 0} (f : A → B) (g : B → C) (o : Option A) (taken : Option B) → taken ≡ option_map f o → option_map g taken ≡ option_map (λ a. g (f a)) o
part-taken f g None taken is = ap (option_map g) is
part-taken f g (Some a) taken is = ap (option_map g) is
