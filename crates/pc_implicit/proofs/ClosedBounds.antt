-- What a read bound leaves to others never falls, and a read leaves them only later timestamps.
use Rattle.std.proofs.Common.{◌≡◌, ℕ, ◌<◌, ◌≤◌, Some, arith}
use Rattle.std.proofs.lemmas.Grind.{common_steps}
use Rattle.pc_base.specs.Bound.{ReadBound, free_from, raised}
use Rattle.pc_base.specs.declared.transaction.TxnId.{TxnId}
use Rattle.pc_implicit.specs.Decided.{BoundStands}
use Rattle.pc_lists.proofs.Same.{same_txn-is}

-- what a bound that stands leaves to a writer does not fall
pub free_from-rises : (writer : TxnId) (b c : ReadBound) → BoundStands b c → free_from writer b ≤ free_from writer c
free_from-rises writer b c h = let ts = h.ts in let owner = h.owner in grind (arith, common_steps)

-- a read leaves to others only later timestamps
pub raised-closed : (id : TxnId) (ts : ℕ) (b : ReadBound) (other : TxnId) → (other ≡ id → ⊥) → ts < free_from other (raised ts (Some id) b)
raised-closed id ts b other differ = grind (arith, common_steps, same_txn-is)
