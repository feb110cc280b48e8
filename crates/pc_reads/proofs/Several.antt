-- Several spans more were read.
use Rattle.std.proofs.Common.{◌≡◌, ℕ, inl, inr, List, [], ◌∷◌, ◌++◌, fold, Contains, refl, sym, ap, ◌∙◌, subst, All}
use Rattle.std.proofs.lemmas.List.Elements.{All-head, All-tail}
use Rattle.std.proofs.lemmas.Map.Views.{All-insert_key}
use Rattle.std.specs.BTreeSet.{insert_key}
use Rattle.std.specs.List.Sorted.{IsStrictlySortedBy}
use Rattle.pc_base.specs.declared.span.Span.{Span}
use Rattle.pc_base.specs.SpanOrder.{span_cmp}
use Rattle.pc_lists.proofs.Lists.{contains_cons, contains_nil}
use Rattle.pc_reads.proofs.Ordered.{inserted_sorted, span_total}
use Rattle.pc_refresh.proofs.Held.{inserted_has, inserted_keeps}
use Rattle.pc_refresh.proofs.SameSpan.{same_span}

-- The spans with these more.
abbrev pub with_more : List Span → List Span → List Span
with_more held more = fold (λ spans span. insert_key span_cmp spans span) held more

-- what was there stays
pub more_keeps : (held more : List Span) (span : Span) → Contains held span → Contains (with_more held more) span
more_keeps held [] span there = there
more_keeps held (other ∷ more) span there = more_keeps (insert_key span_cmp held other) more span (inserted_keeps span_cmp same_span other held span there)

-- and each that is added is there
pub more_has : (held more : List Span) (span : Span) → Contains more span → Contains (with_more held more) span
more_has held [] span there = absurd (contains_nil span there)
more_has held (other ∷ more) span there =
    elim (contains_cons other more span there) as (λ b. Contains (with_more (insert_key span_cmp held other) more) span)
    [ inl is ↦ more_keeps (insert_key span_cmp held other) more span (subst (λ s. Contains (insert_key span_cmp held other) s) is (inserted_has span_cmp same_span other held)) | inr later ↦ more_has (insert_key span_cmp held other) more span later ]

-- what is so of all is so of all that are there then
pub more_all : (P : Span → Type 0) (held more : List Span) → All P held → All P more → All P (with_more held more)
more_all P held [] a b = a
more_all P held (other ∷ more) a b =
    more_all P (insert_key span_cmp held other) more (All-insert_key span_cmp other P held a (All-head P other more b)) (All-tail P other more b)

-- and the order stays
pub more_sorted : (held more : List Span) → IsStrictlySortedBy span_cmp held → IsStrictlySortedBy span_cmp (with_more held more)
more_sorted held [] s = s
more_sorted held (other ∷ more) s = more_sorted (insert_key span_cmp held other) more (inserted_sorted span_total held other s)
