-- A key that is removed from a map leaves the entries of the others.
use Rattle.std.proofs.Common.{◌≡◌, ℕ, Bool, true, false, not, cond, List, [], ◌∷◌, None, Some, refl, sym, ap, subst, ◌∙◌, filter}
use Rattle.std.specs.BTreeMap.{BTreeMap, is_at}
use Rattle.std.specs.Cmp.Lexicographic.{slice_cmp}
use Rattle.std.specs.Map.{lookup, remove_entry}
use Rattle.std.specs.Ordering.{nat_cmp}
use Rattle.pc_base.specs.Keyed.{without}
use Rattle.pc_base.specs.Span.{same_key}
use Rattle.pc_lists.proofs.Same.{same_key-is}

same-flip : (a b : List ℕ) → same_key a b ≡ same_key b a
same-flip a b = by (same_key a b) (same_key b a) refl refl
  where
    by : (s t : Bool) → same_key a b ≡ s → same_key b a ≡ t → s ≡ t
    by true true e h = refl
    by false false e h = refl
    by true false e h = let same : same_key a b ≡ same_key b a = subst (λ x. same_key a x ≡ same_key x a) (same_key-is a b e) refl in absurd cc
    by false true e h = let same : same_key b a ≡ same_key a b = subst (λ x. same_key b x ≡ same_key x b) (same_key-is b a h) refl in absurd cc

module _ {V : Type 0} (test : List ℕ → Bool) where
  filter-removed : (es : List (List ℕ × V)) → filter (λ e. not (test e.0)) (remove_entry test es) ≡ filter (λ e. not (test e.0)) es
  filter-removed [] = refl
  filter-removed (e ∷ es) = by (test e.0) refl (filter-removed es)
    where
      by : (b : Bool) → test e.0 ≡ b → filter (λ (x : List ℕ × V). not (test x.0)) (remove_entry test es) ≡ filter (λ (x : List ℕ × V). not (test x.0)) es
          → filter (λ (x : List ℕ × V). not (test x.0)) (cond b es (e ∷ remove_entry test es)) ≡ cond (not (test e.0)) (e ∷ filter (λ (x : List ℕ × V). not (test x.0)) es) (filter (λ (x : List ℕ × V). not (test x.0)) es)
      by true h rest = sym (ap (λ b. cond (not b) (e ∷ filter (λ (x : List ℕ × V). not (test x.0)) es) (filter (λ (x : List ℕ × V). not (test x.0)) es)) h)
      by false h rest = ap (λ later. cond (not (test e.0)) (e ∷ later) later) rest

  filter-missing : (es : List (List ℕ × V)) → lookup test es ≡ None → filter (λ e. not (test e.0)) es ≡ es
  filter-missing [] h = refl
  filter-missing (e ∷ es) h = by (test e.0) h (filter-missing es)
    where
      by : (b : Bool) → cond b (Some e.1) (lookup test es) ≡ None → (lookup test es ≡ None → filter (λ (x : List ℕ × V). not (test x.0)) es ≡ es) → cond (not b) (e ∷ filter (λ (x : List ℕ × V). not (test x.0)) es) (filter (λ (x : List ℕ × V). not (test x.0)) es) ≡ e ∷ es
      by true h rest = absurd cc
      by false h rest = ap (λ later. e ∷ later) (rest h)

pub removed : {V : Type 0} (key : List ℕ) (old new : BTreeMap (List ℕ) V) → new.entries ≡ remove_entry (is_at (slice_cmp nat_cmp key)) old.entries → lookup (is_at (slice_cmp nat_cmp key)) new.entries ≡ None
    → new.entries ≡ without same_key key old.entries
removed {V} key old new is missing =
    sym (filter-missing (is_at (slice_cmp nat_cmp key)) new.entries missing)
    ∙ ap (filter (λ (e : List ℕ × V). not (is_at (slice_cmp nat_cmp key) e.0))) is
    ∙ filter-removed (is_at (slice_cmp nat_cmp key)) old.entries
    ∙ ap (λ (test : List ℕ × V → Bool). filter test old.entries) (λ i e. not (same-flip key e.0 i))
