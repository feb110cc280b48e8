-- Where a writer may write, by what it may not do, and which timestamp is the least such.
use Rattle.std.specs.Prelude.{ℕ, ◌≡◌, ◌<◌, ◌≤◌, ◌⊎◌, IsTrue}
use Rattle.pc_base.specs.Bound.{ReadBound, owns}
use Rattle.pc_base.specs.declared.transaction.TxnId.{TxnId}

-- The timestamp is above the bound, or it is the bound itself and the writer owns it.
abbrev pub IsAboveBound : ReadBound → TxnId → ℕ → Type 0
IsAboveBound bound writer at = (bound.ts < at) ⊎ ((at ≡ bound.ts) × IsTrue (owns writer bound))

-- Not below the timestamp that was asked for, above the bound, and no other such timestamp is lower.
pub record IsLeastWrite (bound : ReadBound) (ts : ℕ) (writer : TxnId) (result : ℕ) : Type 0 where
  pub asked : ts ≤ result
  pub above : IsAboveBound bound writer result
  pub least : (other : ℕ) → ts ≤ other → IsAboveBound bound writer other → result ≤ other
