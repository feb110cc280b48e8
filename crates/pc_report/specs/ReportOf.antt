-- Which report a history has. Own profile.
use Rattle.std.specs.Prelude.{◌≡◌, ℕ, if◌then◌else◌, Option, None, Some, List, [], fold, map, slice_get}
use Rattle.std.specs.List.{filter_map}
use Rattle.std.specs.Cmp.Lexicographic.{slice_cmp}
use Rattle.std.specs.Ordering.{nat_cmp}
use Rattle.pc_base.specs.declared.entry.Entry.{Entry}
use Rattle.pc_base.specs.declared.transaction.TxnId.{TxnId}
use Rattle.pc_base.specs.Keyed.{in_order}
use Rattle.pc_base.specs.Transaction.{same_txn, txn_cmp}
use Rattle.pc_proto.specs.declared.answer.Answer.{Answer}
use Rattle.pc_proto.specs.declared.answer.Answer.TheVariants as answers
use Rattle.pc_proto.specs.declared.event.Event.{Event}
use Rattle.pc_proto.specs.declared.event.Event.TheVariants as events
use Rattle.pc_proto.specs.declared.record.Standing.{Standing}
use Rattle.pc_proto.specs.declared.record.Standing.TheVariants as standings
use Rattle.pc_proto.specs.declared.why.Why.{Why}
use Rattle.pc_proto.specs.Place.{Place, Nothing, Kept, Marked}
use Rattle.pc_report.specs.declared.rows.CommittedRow.{CommittedRow}
use Rattle.pc_report.specs.declared.rows.Ending.{Ending}
use Rattle.pc_report.specs.declared.rows.Ending.TheVariants as endings
use Rattle.pc_report.specs.declared.rows.OtherRow.{OtherRow}
use Rattle.pc_report.specs.declared.rows.Report.{Report}
use Rattle.pc_world.specs.After.{place_at}
use Rattle.pc_world.specs.CommitOrder.{Rank, all_begun, commit_order}
use Rattle.pc_world.specs.Committed.{anchor_in, commit_ts}
use Rattle.pc_world.specs.Local.{Head}
use Rattle.pc_world.specs.MapRun.{Map, map_after}
use Rattle.pc_world.specs.Operations.{Operation, Read, ReadAll, Write, operations_of}
use Rattle.pc_world.specs.RangeOf.{range_of}
use Rattle.pc_world.specs.Run.{IsRun}

-- The key and the value that an operation writes, if it writes.
abbrev pub written_by : Operation → Option (List ℕ × Option (List ℕ))
written_by (Write key seq value) = Some (key, value)
written_by (Read key value) = None
written_by (ReadAll span rows) = None

-- The last write of each key, in key order.
abbrev pub last_writes : List Operation → List (List ℕ × Option (List ℕ))
last_writes operations = in_order (slice_cmp nat_cmp) (filter_map written_by operations)

-- A committed transaction with its timestamp and its last writes.
abbrev pub committed_row : List (Entry Event) → Rank × TxnId → CommittedRow
committed_row history committed =
    record { id = committed.1; ts = committed.0.ts; writes = last_writes (operations_of history committed.1) }

-- The cause for which an answer says that the transaction was rolled back.
abbrev pub rolled_back_by : TxnId → Answer → Option Why
rolled_back_by id (answers.RolledBack other why) = if same_txn other id then Some why else None
rolled_back_by id _ = None

-- The cause for which an event tells that the transaction was rolled back.
abbrev pub rolled_back_in : TxnId → Event → Option Why
rolled_back_in id (events.Tell answer) = rolled_back_by id answer
rolled_back_in id _ = None

-- The cause for which the transaction was first told rolled back, if it was.
abbrev pub rolled_back : TxnId → List (Entry Event) → Option Why
rolled_back id history = slice_get (filter_map (λ e. rolled_back_in id e.event) history) 0

-- A transaction whose record does not say aborted was aborted where its session was told so, and is open otherwise.
abbrev pub told_ending : Option Why → Ending → Ending
told_ending None otherwise = otherwise
told_ending (Some why) otherwise = endings.Aborted why

-- How a transaction that is not committed ended, by what its record or mark says and by what its session was told.
abbrev pub ending_by : Standing → Option Why → Ending
ending_by (standings.Aborted why) told = endings.Aborted why
ending_by standings.Pending told = told_ending told endings.Pending
ending_by standings.Staging told = told_ending told endings.Staging
ending_by standings.Committed told = told_ending told endings.NoRecord

-- How a transaction that is not committed ended, by what its range has of it and by what its session was told.
abbrev pub ending_at : Place → Option Why → Ending
ending_at Nothing told = told_ending told endings.NoRecord
ending_at (Kept r) told = ending_by r.status.standing told
ending_at (Marked s) told = ending_by s.standing told

-- How a transaction of this anchor ended: by the range of its anchor, or, with no put, by what its session was told.
abbrev pub ending_from : Head → List (Entry Event) → TxnId → Option (List ℕ) → Ending
ending_from head history id None = told_ending (rolled_back id history) endings.NoRecord
ending_from head history id (Some anchor) =
    ending_at (place_at head (range_of head.splits anchor) id history) (rolled_back id history)

-- How a transaction that is not committed ended.
abbrev pub ending_of : Head → List (Entry Event) → TxnId → Ending
ending_of head history id = ending_from head history id (anchor_in id history)

-- A transaction with its ending, unless it is committed.
abbrev pub other_unless : Option ℕ → TxnId → Ending → Option (TxnId × Ending)
other_unless None id how = Some (id, how)
other_unless (Some ts) id how = None

-- A transaction with its ending, if it is not committed.
abbrev pub other_of : Head → List (Entry Event) → TxnId → Option (TxnId × Ending)
other_of head history id = other_unless (commit_ts head history id) id (ending_of head history id)

-- The transactions that were begun and are not committed, with their endings, by session and number.
abbrev pub others_of : Head → List (Entry Event) → List (TxnId × Ending)
others_of head history = in_order txn_cmp (filter_map (other_of head history) (all_begun history))

-- A row for a transaction and its ending.
abbrev pub other_row : TxnId × Ending → OtherRow
other_row other = record { id = other.0; ending = other.1 }

-- The map after one more committed transaction.
abbrev pub map_with : List (Entry Event) → Map → Rank × TxnId → Map
map_with history m committed = fold map_after m (operations_of history committed.1)

-- The map after all committed transactions, one after another in the commit order.
abbrev pub map_of : Head → List (Entry Event) → Map
map_of head history = fold (map_with history) [] (commit_order head history)

-- The report of a history: the committed transactions in the commit order, all others that were begun, and the map in the end.
abbrev pub report_of : Head → List (Entry Event) → Report
report_of head history = record {
  committed = map (committed_row history) (commit_order head history);
  others = map other_row (others_of head history);
  map = map_of head history;
}

-- The entries are a run over ranges with these splits: of some sessions and some recoverers.
pub record IsRunOver (splits : List (List ℕ)) (entries : List (Entry Event)) : Type 0 where
  pub head : Head
  pub cut : head.splits ≡ splits
  pub run : IsRun head entries
