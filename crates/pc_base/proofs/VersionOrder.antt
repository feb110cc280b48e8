-- Versions that stand by key and timestamp still do with one more of its own key and timestamp.
use Rattle.std.proofs.Common.{◌≡◌, ℕ, ◌<◌, Bool, true, false, if◌then◌else◌, List, [], ◌∷◌, refl, sym, ap, subst, ◌∙◌, arith}
use Rattle.std.proofs.lemmas.Cmp.{nat_cmp_total, nat_list_cmp_total, on_total, then_total, tied_itself}
use Rattle.std.proofs.lemmas.Grind.{common_steps}
use Rattle.std.proofs.lemmas.Map.Lookups.{exact_bytes, exact_unsigned}
use Rattle.std.specs.Cmp.{IsTotalOrder}
use Rattle.std.specs.Cmp.Lexicographic.{slice_cmp}
use Rattle.std.specs.declared.cmp.Ordering.{Ordering}
use Rattle.std.specs.declared.cmp.Ordering.TheVariants.{Less, Equal, Greater}
use Rattle.std.specs.List.{AllByRecursion as Each}
use Rattle.std.specs.List.Sorted.{IsStrictlySortedBy}
use Rattle.std.specs.Ordering.{is_lt, nat_cmp, ordering_reverse, ordering_then}
use Rattle.pc_base.proofs.Entries.{below_all}
use Rattle.pc_base.specs.declared.version.Version.{Version}
use Rattle.pc_base.specs.Versions.{version_cmp, with_version}

pub version_total : IsTotalOrder version_cmp
version_total = then_total (on_total (λ (v : Version). v.key) nat_list_cmp_total) (on_total (λ (v : Version). v.ts) nat_cmp_total)

module _ (P : Version → Type 0) where
  pub each_with_version : (vs : List Version) (v : Version) → P v → Each P vs → Each P (with_version vs v)
  each_with_version [] v h a = (h, tt)
  each_with_version (w ∷ ws) v h a = by (is_lt (version_cmp v w)) (each_with_version ws v h a.1)
    where
      by : (b : Bool) → Each P (with_version ws v) → Each P (if b then v ∷ w ∷ ws else w ∷ with_version ws v)
      by true rest = (h, a)
      by false rest = (a.0, rest)

-- Of two versions of the order one is not the other's equal.
abbrev pub IsApart : Version → Version → Type 0
IsApart v w = version_cmp v w ≡ Equal → ⊥

greater-only : (o : Ordering) → is_lt o ≡ false → (o ≡ Equal → ⊥) → ordering_reverse o ≡ Less
greater-only Less h apart = absurd cc
greater-only Equal h apart = absurd (apart refl)
greater-only Greater h apart = refl

less-only : (o : Ordering) → is_lt o ≡ true → o ≡ Less
less-only Less h = refl
less-only Equal h = absurd cc
less-only Greater h = absurd cc

then-equal : (one other : Ordering) → ordering_then one other ≡ Equal → (one ≡ Equal) × (other ≡ Equal)
then-equal Less other h = absurd cc
then-equal Equal other h = (refl, h)
then-equal Greater other h = absurd cc

-- two that are equal in the order have one key and one timestamp
pub equal_versions : (v w : Version) → version_cmp v w ≡ Equal → (v.key ≡ w.key) × (v.ts ≡ w.ts)
equal_versions v w h =
    let both = then-equal (slice_cmp nat_cmp v.key w.key) (nat_cmp v.ts w.ts) h in
    (exact_bytes v.key w.key both.0, exact_unsigned v.ts w.ts both.1)

less-of-one : (key other : List ℕ) (m n : ℕ) → ordering_then (slice_cmp nat_cmp key other) (nat_cmp m n) ≡ Less → key ≡ other → m < n
less-of-one key other m n h same =
    let tied : slice_cmp nat_cmp key other ≡ Equal = subst (λ k. slice_cmp nat_cmp key k ≡ Equal) same (tied_itself nat_list_cmp_total key) in
    let less : nat_cmp m n ≡ Less = sym (ap (λ o. ordering_then o (nat_cmp m n)) tied) ∙ h in
    grind (arith, common_steps, less)

-- of two of one key the one that stands before is of the lesser timestamp
pub below_of_one_key : (v w : Version) → version_cmp v w ≡ Less → v.key ≡ w.key → v.ts < w.ts
below_of_one_key v w h same = less-of-one v.key w.key v.ts w.ts h same

-- where no version has the new one's key and timestamp, all still rise
pub sorted_with_version : (vs : List Version) (v : Version) → Each (IsApart v) vs → IsStrictlySortedBy version_cmp vs → IsStrictlySortedBy version_cmp (with_version vs v)
unfolding IsStrictlySortedBy
sorted_with_version [] v apart sorted = (tt, tt)
sorted_with_version (w ∷ ws) v apart sorted = by (is_lt (version_cmp v w)) refl (sorted_with_version ws v apart.1 sorted.1)
  where
    by : (b : Bool) → is_lt (version_cmp v w) ≡ b → IsStrictlySortedBy version_cmp (with_version ws v) → IsStrictlySortedBy version_cmp (if b then v ∷ w ∷ ws else w ∷ with_version ws v)
    by true is rest = let below : version_cmp v w ≡ Less = less-only (version_cmp v w) is in ((below, below_all version_total v w ws below sorted.0), sorted)
    by false is rest =
        let below : version_cmp w v ≡ Less = version_total.antisymm w v ∙ greater-only (version_cmp v w) is apart.0 in
        (each_with_version (λ x. version_cmp w x ≡ Less) ws v below sorted.0, rest)
