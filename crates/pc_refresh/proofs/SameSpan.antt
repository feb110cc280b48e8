-- Spans that stand alike are the same.
use Rattle.std.proofs.Common.{◌≡◌, ℕ, List, Option, Some, None, refl, ap}
use Rattle.std.specs.FinMap.{nat_cmp-IsAntisymmetric, slice_cmp-IsAntisymmetric}
use Rattle.std.specs.Cmp.Lexicographic.{slice_cmp}
use Rattle.std.specs.Option.{option_cmp}
use Rattle.std.specs.Ordering.{nat_cmp, ordering_then}
use Rattle.std.specs.declared.cmp.Ordering.{Ordering}
use Rattle.std.specs.declared.cmp.Ordering.TheVariants.{Less, Equal, Greater}
use Rattle.pc_base.specs.declared.span.Span.{Span}
use Rattle.pc_base.specs.declared.span.Span.TheVariants.{One, Between}
use Rattle.pc_base.specs.SpanOrder.{end_cmp, span_cmp}

first_of : (one other : Ordering) → ordering_then one other ≡ Equal → one ≡ Equal
first_of Less other e = e
first_of Equal other e = refl
first_of Greater other e = e

second_of : (one other : Ordering) → ordering_then one other ≡ Equal → other ≡ Equal
second_of Less other e = absurd cc
second_of Equal other e = e
second_of Greater other e = absurd cc

same_bytes : (one other : List ℕ) → slice_cmp nat_cmp one other ≡ Equal → one ≡ other
same_bytes one other e = slice_cmp-IsAntisymmetric nat_cmp-IsAntisymmetric one other e

same_start : (one other : Option (List ℕ)) → option_cmp (slice_cmp nat_cmp) one other ≡ Equal → one ≡ other
same_start None None e = refl
same_start None (Some other) e = absurd cc
same_start (Some one) None e = absurd cc
same_start (Some one) (Some other) e = ap (λ key. Some key) (same_bytes one other e)

same_end : (one other : Option (List ℕ)) → end_cmp one other ≡ Equal → one ≡ other
same_end None None e = refl
same_end None (Some other) e = absurd cc
same_end (Some one) None e = absurd cc
same_end (Some one) (Some other) e = ap (λ key. Some key) (same_bytes one other e)

pub same_span : (one other : Span) → span_cmp one other ≡ Equal → one ≡ other
same_span (One key) (One other) e = ap (λ k. One k) (same_bytes key other (first_of (slice_cmp nat_cmp key other) Equal e))
same_span (One key) (Between from to) e =
    let h : Less ≡ Equal = second_of (option_cmp (slice_cmp nat_cmp) (Some key) from) Less e in absurd cc
same_span (Between from to) (One key) e =
    let h : Greater ≡ Equal = second_of (option_cmp (slice_cmp nat_cmp) from (Some key)) Greater e in absurd cc
same_span (Between from to) (Between first end) e =
    let starts : from ≡ first = same_start from first (first_of (option_cmp (slice_cmp nat_cmp) from first) (end_cmp to end) e) in
    let ends : to ≡ end = same_end to end (second_of (option_cmp (slice_cmp nat_cmp) from first) (end_cmp to end) e) in
    cc
