-- The order of spans: by their starts, an open one first; then one key before the keys from it on; then by their ends, an open one last.
-- Own profile.
use Rattle.std.specs.Prelude.{ℕ, Option, None, Some, List}
use Rattle.std.specs.Cmp.Lexicographic.{slice_cmp}
use Rattle.std.specs.declared.cmp.Ordering.{Ordering}
use Rattle.std.specs.declared.cmp.Ordering.TheVariants.{Less, Equal, Greater}
use Rattle.std.specs.Option.{option_cmp}
use Rattle.std.specs.Ordering.{nat_cmp, ordering_then}
use Rattle.pc_base.specs.declared.span.Span.{Span}
use Rattle.pc_base.specs.declared.span.Span.TheVariants.{One, Between}

-- The key at which the span starts; none where its start is open.
abbrev pub start_of : Span → Option (List ℕ)
start_of (One key) = Some key
start_of (Between from to) = from

-- How two ends stand in key order, an open one last.
abbrev pub end_cmp : Option (List ℕ) → Option (List ℕ) → Ordering
end_cmp None None = Equal
end_cmp None (Some other) = Greater
end_cmp (Some end) None = Less
end_cmp (Some end) (Some other) = slice_cmp nat_cmp end other

-- How two spans of one start stand: one key before the keys from it on, and these by their ends.
abbrev pub rest_cmp : Span → Span → Ordering
rest_cmp (One key) (One other) = Equal
rest_cmp (One key) (Between from to) = Less
rest_cmp (Between from to) (One key) = Greater
rest_cmp (Between from to) (Between first end) = end_cmp to end

-- How two spans stand.
abbrev pub span_cmp : Span → Span → Ordering
span_cmp one other = ordering_then (option_cmp (slice_cmp nat_cmp) (start_of one) (start_of other)) (rest_cmp one other)
