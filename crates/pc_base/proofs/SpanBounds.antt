-- The bounds of a span's keys: they are not backward, and have just these keys between them.
use Rattle.std.proofs.Common.{◌≡◌, ℕ, Bool, true, false, not, ◌&&◌, if◌then◌else◌, List, Option, None, Some, refl, sym, ap, subst, ◌∙◌}
use Rattle.std.proofs.lemmas.Map.Lookups.{exact_bytes}
use Rattle.std.proofs.lemmas.Cmp.{nat_list_cmp_total, tied_itself}
use Rattle.std.specs.BTreeMap.Range.{IsLeBy, IsLtBy, range_contains}
use Rattle.std.specs.Cmp.Lexicographic.{slice_cmp}
use Rattle.std.specs.declared.cmp.Ordering.{Ordering}
use Rattle.std.specs.declared.cmp.Ordering.TheVariants.{Less, Equal, Greater}
use Rattle.std.specs.declared.ops.Bound.{Bound}
use Rattle.std.specs.declared.ops.Bound.TheVariants.{Included, Unbounded}
use Rattle.std.specs.Ordering.{is_eq, is_gt, is_le, is_lt, nat_cmp, ordering_reverse}
use Rattle.std.specs.Range.Bound.{IsForward}
use Rattle.pc_base.specs.declared.span.Span.{Span}
use Rattle.pc_base.specs.declared.span.Span.TheVariants.{One, Between}
use Rattle.pc_base.specs.Span.{is_before, is_empty, is_from, key_below}
use Rattle.pc_base.specs.SpanBounds.{AreBoundsOf, end_bound, start_bound}

from-turned : (o : Ordering) → is_le o ≡ not (is_lt (ordering_reverse o))
from-turned Less = refl
from-turned Equal = refl
from-turned Greater = refl

before-turned : (o : Ordering) → not (is_le o) ≡ is_lt (ordering_reverse o)
before-turned Less = refl
before-turned Equal = refl
before-turned Greater = refl

one-turned : (o : Ordering) → (is_le o && not (is_lt o)) ≡ is_eq (ordering_reverse o)
one-turned Less = refl
one-turned Equal = refl
one-turned Greater = refl

turned : (key other : List ℕ) → slice_cmp nat_cmp key other ≡ ordering_reverse (slice_cmp nat_cmp other key)
turned key other = nat_list_cmp_total.antisymm key other

pub bounds_of_one : (one : List ℕ) → AreBoundsOf (One one) (Included one) (Included one)
bounds_of_one one = record {
  forward = ap is_gt (tied_itself nat_list_cmp_total one);
  keys = λ key. one-turned (slice_cmp nat_cmp one key) ∙ ap is_eq (sym (turned key one));
}

from-start : (from : Option (List ℕ)) (to : Bound (List ℕ)) (key : List ℕ) → range_contains (slice_cmp nat_cmp) (start_bound from) to key ≡ (is_from from key && range_contains (slice_cmp nat_cmp) Unbounded to key)
from-start None to key = refl
from-start (Some first) to key =
    ap (λ b. b && range_contains (slice_cmp nat_cmp) Unbounded to key) (from-turned (slice_cmp nat_cmp first key) ∙ ap (λ o. not (is_lt o)) (sym (turned key first)))

to-end : (to : Option (List ℕ)) (key : List ℕ) → range_contains (slice_cmp nat_cmp) Unbounded (end_bound to) key ≡ is_before to key
to-end None key = refl
to-end (Some end) key = before-turned (slice_cmp nat_cmp end key) ∙ ap is_lt (sym (turned key end))

forward-if : (o : Ordering) → is_lt o ≡ true → is_gt o ≡ false
forward-if Less h = refl
forward-if Equal h = absurd cc
forward-if Greater h = absurd cc

-- nothing stands between a key and itself, which is outside
none-inside : (b : Bool) → (not b && b) ≡ false
none-inside true = refl
none-inside false = refl

-- nor from a key on to one that is not above it
empty-inside : (first end key : List ℕ) → key_below first end ≡ false → (not (key_below key first) && key_below key end) ≡ false
empty-inside first end key h = by (key_below key first) refl (key_below key end) refl
  where
    less-only : (o : Ordering) → is_lt o ≡ true → o ≡ Less
    less-only Less k = refl
    less-only Equal k = absurd cc
    less-only Greater k = absurd cc

    by : (c : Bool) → key_below key first ≡ c → (b : Bool) → key_below key end ≡ b → (not c && b) ≡ false
    by true is b there = refl
    by false is false there = refl
    by false is true there = absurd (let below : key_below first end ≡ true = reach (slice_cmp nat_cmp first key) refl in let clash : false ≡ true = sym h ∙ below in cc)
      where
        reach : (o : Ordering) → slice_cmp nat_cmp first key ≡ o → key_below first end ≡ true
        reach Less at = ap is_lt (nat_list_cmp_total.trans first key end at (less-only (slice_cmp nat_cmp key end) there))
        reach Equal at = subst (λ k. key_below k end ≡ true) (sym (exact_bytes first key at)) there
        reach Greater at =
            let under : key_below key first ≡ true = ap is_lt (turned key first ∙ ap ordering_reverse at) in
            absurd (let clash : false ≡ true = sym is ∙ under in cc)

-- the end of a span, or its start where that is not before the end
bounds-between : (from to : Option (List ℕ)) (b : Bool) → is_empty from to ≡ b → AreBoundsOf (Between from to) (start_bound from) (end_bound (if b then from else to))
bounds-between from to b is = record { forward = forward from to b is; keys = λ key. from-start from (end_bound (if b then from else to)) key ∙ (ap (λ c. is_from from key && c) (to-end (if b then from else to) key) ∙ inside from to b is key) }
  where
    forward : (from to : Option (List ℕ)) (b : Bool) → is_empty from to ≡ b → IsForward (IsLeBy (slice_cmp nat_cmp)) (IsLtBy (slice_cmp nat_cmp)) (start_bound from) (end_bound (if b then from else to))
    forward None to b is = tt
    forward (Some first) to true is = ap is_gt (tied_itself nat_list_cmp_total first)
    forward (Some first) None false is = tt
    forward (Some first) (Some end) false is = forward-if (slice_cmp nat_cmp first end) (held (key_below first end) is)
      where
        held : (c : Bool) → not c ≡ false → c ≡ true
        held true h = refl
        held false h = absurd cc

    inside : (from to : Option (List ℕ)) (b : Bool) → is_empty from to ≡ b → (key : List ℕ) → (is_from from key && is_before (if b then from else to) key) ≡ (is_from from key && is_before to key)
    inside from to false is key = refl
    inside None to true is key = absurd cc
    inside (Some first) None true is key = absurd cc
    inside (Some first) (Some end) true is key = none-inside (key_below key first) ∙ sym (empty-inside first end key (held (key_below first end) is))
      where
        held : (c : Bool) → not c ≡ true → c ≡ false
        held true h = absurd cc
        held false h = refl

pub bounds_are : (span : Span) (low high : Bound (List ℕ)) (from to end : Option (List ℕ)) → span ≡ Between from to → low ≡ start_bound from → end ≡ (if is_empty from to then from else to) → high ≡ end_bound end → AreBoundsOf span low high
bounds_are span low high from to end is from-start last to-end =
    subst (λ span. AreBoundsOf span low high) (sym is)
    (subst (λ low. AreBoundsOf (Between from to) low high) (sym from-start)
    (subst (λ high. AreBoundsOf (Between from to) (start_bound from) high) (sym (to-end ∙ ap end_bound last)) (bounds-between from to (is_empty from to) refl)))
