use Rattle.std.proofs.Common.{ℕ, List, sym, subst}
use Rattle.std.specs.declared.ops.Bound.TheVariants.{Included}
use Rattle.pc_base.proofs.SpanBounds.{bounds_are, bounds_of_one}
use Rattle.pc_base.specs.declared.span.Span.{Span}
use Rattle.pc_base.specs.SpanBounds.{AreBoundsOf}
use Rattle.pc_base.proofs.span.Span.bounds.Goals as goal

pub returns-in-One : goal.returns-in-One
returns-in-One c =
    let one : List ℕ = c.in-One.key in
    subst (λ (span : Span). AreBoundsOf span (Included one) (Included one)) (sym c.in-One.is) (bounds_of_one one)

pub returns-in-Between : goal.returns-in-Between
returns-in-Between c =
    bounds_are _ _ _ c.in-Between.from c.in-Between.to _ c.in-Between.is c.start_bound.ensures c.end_of.ensures c.end_bound.ensures
