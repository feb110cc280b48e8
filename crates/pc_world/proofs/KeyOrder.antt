-- The order of keys is total.
use Rattle.std.proofs.Common.{◌≡◌, ℕ, Bool, true, false, not, List, refl, sym, ap, ◌∙◌}
use Rattle.std.proofs.lemmas.Cmp.{nat_list_cmp_total, upto}
use Rattle.std.specs.Cmp.Lexicographic.{slice_cmp}
use Rattle.std.specs.declared.cmp.Ordering.{Ordering}
use Rattle.std.specs.declared.cmp.Ordering.TheVariants as orderings
use Rattle.std.specs.Ordering.{is_gt, is_le, is_lt, nat_cmp, ordering_reverse}
use Rattle.pc_base.specs.Span.{key_at_most, key_below}

turned : (o : Ordering) → is_lt (ordering_reverse o) ≡ is_gt o
turned orderings.Less = refl
turned orderings.Equal = refl
turned orderings.Greater = refl

-- a key is below another just if that is above it
above : (one other : List ℕ) → key_below other one ≡ is_gt (slice_cmp nat_cmp one other)
above one other = ap is_lt (nat_list_cmp_total.antisymm other one) ∙ turned (slice_cmp nat_cmp one other)

not-greater : (o : Ordering) → is_le o ≡ not (is_gt o)
not-greater orderings.Less = refl
not-greater orderings.Equal = refl
not-greater orderings.Greater = refl

-- a key is at most another just if that is not below it
pub at_most-is : (one other : List ℕ) → key_at_most one other ≡ not (key_below other one)
at_most-is one other = not-greater (slice_cmp nat_cmp one other) ∙ ap not (sym (above one other))

less-only : (o : Ordering) → is_lt o ≡ true → is_gt o ≡ false
less-only orderings.Less h = refl
less-only orderings.Equal h = absurd cc
less-only orderings.Greater h = absurd cc

-- of two keys one at most is below the other
pub below-once : (one other : List ℕ) → key_below one other ≡ true → key_below other one ≡ false
below-once one other h = above one other ∙ less-only (slice_cmp nat_cmp one other) h

-- what is not above a key is not above what that is not above
pub at_most-through : (one middle other : List ℕ) → key_below middle one ≡ false → key_below other middle ≡ false → key_below other one ≡ false
at_most-through one middle other low high =
    above one other ∙ upto nat_list_cmp_total one middle other (sym (above one middle) ∙ low) (sym (above middle other) ∙ high)

-- what is not below a key that is above another is above that too
pub below-through : (one middle other : List ℕ) → key_below one middle ≡ true → key_below other middle ≡ false → key_below one other ≡ true
below-through one middle other low high = by (key_below one other) refl
  where
    by : (b : Bool) → key_below one other ≡ b → key_below one other ≡ true
    by true is = is
    by false is = let not-low = at_most-through middle other one high is in absurd cc
