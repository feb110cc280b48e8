-- What tables under transactions have after a value was kept.
use Rattle.std.proofs.Common.{◌≡◌, cond, Option, ap, ◌∙◌}
use Rattle.std.specs.BTreeMap.{BTreeMap, Updates}
use Rattle.pc_base.proofs.TxnOrder.{txn_equal}
use Rattle.pc_base.specs.declared.transaction.TxnId.{TxnId}
use Rattle.pc_base.specs.Transaction.{same_txn, txn_cmp}
use Rattle.pc_report.specs.Replaying.{held}

-- what an update does to each transaction
pub updated : {V : Type 0} (old new : BTreeMap TxnId V) (id : TxnId) (value : Option V) → Updates txn_cmp old new id value → (other : TxnId) → held new other ≡ cond (same_txn id other) value (held old other)
updated old new id value h other = h.0 other ∙ ap (λ b. cond b value (held old other)) (txn_equal id other)
