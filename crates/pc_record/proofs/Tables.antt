-- A table is its records and its marks.
use Rattle.std.proofs.Common.{◌≡◌, List, Some}
use Rattle.std.specs.BTreeMap.{insert_entry, is_at}
use Rattle.std.specs.List.Sorted.{IsStrictlySortedBy}
use Rattle.std.specs.Map.{keys_of, lookup, set_value}
use Rattle.pc_base.proofs.Entries.{written_is_inserted}
use Rattle.pc_base.proofs.TxnOrder.{txn_equal, txn_total}
use Rattle.pc_base.specs.Transaction.{same_txn, txn_cmp}
use Rattle.pc_base.specs.declared.transaction.TxnId.{TxnId}
use Rattle.pc_proto.specs.declared.record.Record.{Record}
use Rattle.pc_proto.specs.declared.record.Status.{Status}
use Rattle.pc_proto.specs.Table.{Table}

pub table_is : (r s : List (TxnId × Record)) (m n : List (TxnId × Status)) → r ≡ s → m ≡ n → ◌≡◌ {A = Table} (record { records = r; marks = m }) (record { records = s; marks = n })
table_is r s m n same also = λ i. record { records = same i; marks = also i }

-- what is written where a transaction has an entry is put there
pub txn_written : {V : Type 0} (id : TxnId) (old new : V) (entries : List (TxnId × V)) → IsStrictlySortedBy txn_cmp (keys_of entries) → lookup (is_at (txn_cmp id)) entries ≡ Some old
    → set_value (is_at (txn_cmp id)) entries new ≡ insert_entry txn_cmp entries id new
txn_written id old new entries sorted there = written_is_inserted txn_total same_txn txn_equal id old new entries sorted there
