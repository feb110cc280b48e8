-- A span as two bounds of the keys of an ordered table.
use Rattle.std.specs.Prelude.{◌≡◌, ℕ, Option, None, Some, List}
use Rattle.std.specs.BTreeMap.Range.{IsLeBy, IsLtBy, range_contains}
use Rattle.std.specs.Cmp.Lexicographic.{slice_cmp}
use Rattle.std.specs.declared.ops.Bound.{Bound}
use Rattle.std.specs.declared.ops.Bound.TheVariants.{Included, Excluded, Unbounded}
use Rattle.std.specs.Ordering.{nat_cmp}
use Rattle.std.specs.Range.Bound.{IsForward}
use Rattle.pc_base.specs.declared.span.Span.{Span}
use Rattle.pc_base.specs.Span.{contains}

-- A start as a bound: it is inside.
abbrev pub start_bound : Option (List ℕ) → Bound (List ℕ)
start_bound None = Unbounded
start_bound (Some from) = Included from

-- An end as a bound: it is outside.
abbrev pub end_bound : Option (List ℕ) → Bound (List ℕ)
end_bound None = Unbounded
end_bound (Some to) = Excluded to

-- Just the span's keys are between the bounds, which do not run backwards.
pub record AreBoundsOf (span : Span) (low high : Bound (List ℕ)) : Type 0 where
  pub forward : IsForward (IsLeBy (slice_cmp nat_cmp)) (IsLtBy (slice_cmp nat_cmp)) low high
  pub keys : (key : List ℕ) → range_contains (slice_cmp nat_cmp) low high key ≡ contains span key
