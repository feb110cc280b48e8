-- What stands under a key after a value was put under one, or under one nothing stands any more.
use Rattle.std.proofs.Common.{◌≡◌, false, cond, List, [], ◌∷◌, None, Some, refl, ap, ◌∙◌, arith}
use Rattle.std.specs.BTreeMap.{insert_entry}
use Rattle.pc_base.proofs.Entries.{at_inserted}
use Rattle.pc_base.proofs.TxnOrder.{txn_equal, txn_total}
use Rattle.pc_base.specs.declared.transaction.TxnId.{TxnId}
use Rattle.pc_base.specs.Keyed.{at, without}
use Rattle.pc_base.specs.Transaction.{same_txn, txn_cmp}
use Rattle.pc_lists.proofs.Same.{same_txn-is, same_txn-self}

module _ {V : Type 0} where
  pub at_set_at : (id : TxnId) (value : V) (entries : List (TxnId × V)) → at same_txn id (insert_entry txn_cmp entries id value) ≡ Some value
  at_set_at id value entries = at_inserted txn_total same_txn txn_equal id id value entries ∙ ap (λ b. cond b (Some value) (at same_txn id entries)) (same_txn-self id)

  pub at_set_other : (id other : TxnId) (value : V) (entries : List (TxnId × V)) → same_txn id other ≡ false → at same_txn other (insert_entry txn_cmp entries id value) ≡ at same_txn other entries
  at_set_other id other value entries h = at_inserted txn_total same_txn txn_equal id other value entries ∙ ap (λ b. cond b (Some value) (at same_txn other entries)) h

  pub at_without : (id : TxnId) (entries : List (TxnId × V)) → at same_txn id (without same_txn id entries) ≡ None
  at_without id [] = refl
  at_without id (e ∷ es) = grind (arith, at_without id es)

  pub at_without_other : (id other : TxnId) (entries : List (TxnId × V)) → same_txn id other ≡ false → at same_txn other (without same_txn id entries) ≡ at same_txn other entries
  at_without_other id other [] h = refl
  at_without_other id other (e ∷ es) h = grind (arith, at_without_other id other es h, same_txn-is)
