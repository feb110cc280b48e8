-- The rows of a span: in the order of their keys, with what is looked up at each.
use Rattle.std.proofs.Common.{◌≡◌, ℕ, true, List, map, Option, ◌∙◌}
use Rattle.std.specs.Cmp.Lexicographic.{slice_cmp}
use Rattle.std.specs.List.{AllByRecursion as Each}
use Rattle.std.specs.List.Sorted.{IsStrictlySortedBy}
use Rattle.std.specs.Ordering.{nat_cmp}
use Rattle.pc_base.specs.declared.span.Span.{Span}
use Rattle.pc_base.specs.Keyed.{at}
use Rattle.pc_base.specs.Span.{contains, same_key}

-- The rows lie in the span, in the order of their keys, each key once.
pub record LieIn (span : Span) (rows : List (List ℕ × List ℕ)) : Type 0 where
  pub sorted : IsStrictlySortedBy (slice_cmp nat_cmp) (map (λ row. row.0) rows)
  pub inside : Each (λ row. contains span row.0 ≡ true) rows

-- They have under each key of the span what is looked up there, no row where that is nothing.
pub record Show (span : Span) (look : List ℕ → Option (List ℕ)) (rows : List (List ℕ × List ℕ)) : Type 0 where
  pub lie : LieIn span rows
  pub has : (key : List ℕ) → contains span key ≡ true → at same_key key rows ≡ look key

-- what is looked up may be looked up otherwise, where that finds the same in the span
pub show-same : (span : Span) (look other : List ℕ → Option (List ℕ)) (rows : List (List ℕ × List ℕ)) → ((key : List ℕ) → contains span key ≡ true → look key ≡ other key) → Show span look rows → Show span other rows
show-same span look other rows same shown = record { lie = shown.lie; has = λ key inside. shown.has key inside ∙ same key inside }
