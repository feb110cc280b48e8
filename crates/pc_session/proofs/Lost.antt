-- An answer is told by its row.
use Rattle.std.proofs.Common.{Bool, true, false}
use Rattle.std.specs.Bool.{MatchBool}

-- an answer that is neither of the two that come first is told by its row
pub row_by : (needs past : Bool) (none clock row : Type 0) → (none → ⊥) → (clock → ⊥) → MatchBool needs none (MatchBool past clock row) → row
row_by true past none clock row first second is = absurd (first is)
row_by false true none clock row first second is = absurd (second is)
row_by false false none clock row first second is = is
