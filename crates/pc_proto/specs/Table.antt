-- The records and marks of a range, each under its transaction, in the order of the transactions.
use Rattle.std.specs.Prelude.{Option, None, Some, List, []}
use Rattle.std.specs.BTreeMap.{insert_entry}
use Rattle.pc_base.specs.declared.transaction.TxnId.{TxnId}
use Rattle.pc_base.specs.Keyed.{at, without}
use Rattle.pc_base.specs.Transaction.{same_txn, txn_cmp}
use Rattle.pc_proto.specs.declared.record.Record.{Record}
use Rattle.pc_proto.specs.declared.record.Status.{Status}
use Rattle.pc_proto.specs.Place.{Place, Nothing, Kept, Marked, Change, Stay, Become, Finish}

-- What a range has of transactions: their records, and the marks of those whose record was removed.
pub record Table : Type 0 where
  pub records : List (TxnId × Record)
  pub marks : List (TxnId × Status)

-- Neither records nor marks.
abbrev pub empty_table : Table
empty_table = record { records = []; marks = [] }

-- The record where there is one, else the mark, else nothing.
abbrev pub record_or_mark : Option Record → Option Status → Place
record_or_mark (Some r) mark = Kept r
record_or_mark None (Some s) = Marked s
record_or_mark None None = Nothing

-- What the range has of a transaction: its record, else its mark.
abbrev pub place_of : TxnId → Table → Place
place_of id table = record_or_mark (at same_txn id table.records) (at same_txn id table.marks)

-- The records after a change of one transaction's place.
abbrev pub records_after : TxnId → Change → List (TxnId × Record) → List (TxnId × Record)
records_after id Stay records = records
records_after id (Become r) records = insert_entry txn_cmp records id r
records_after id (Finish s) records = without same_txn id records

-- The marks after a change of one transaction's place.
abbrev pub marks_after : TxnId → Change → List (TxnId × Status) → List (TxnId × Status)
marks_after id Stay marks = marks
marks_after id (Become r) marks = marks
marks_after id (Finish s) marks = insert_entry txn_cmp marks id s

-- The table after a change of one transaction's place.
abbrev pub applied_to : TxnId → Change → Table → Table
applied_to id change table =
    record { records = records_after id change table.records; marks = marks_after id change table.marks }
