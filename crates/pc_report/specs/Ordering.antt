-- The commit order, by what was kept of a history.
use Rattle.std.specs.Prelude.{ℕ, Option, None, Some, List}
use Rattle.std.specs.BTreeMap.{insert_entry}
use Rattle.std.specs.List.{filter_map}
use Rattle.std.specs.Option.{option_map}
use Rattle.std.specs.Ordering.{nat_cmp, ordering_then}
use Rattle.std.specs.declared.cmp.Ordering.{Ordering}
use Rattle.pc_base.specs.declared.entry.Entry.{Entry}
use Rattle.pc_base.specs.declared.transaction.TxnId.{TxnId}
use Rattle.pc_base.specs.Keyed.{in_order}
use Rattle.pc_base.specs.Transaction.{txn_cmp}
use Rattle.pc_proto.specs.declared.event.Event.{Event}
use Rattle.pc_report.specs.declared.replay.Rank.{Rank}
use Rattle.pc_report.specs.declared.replay.Replay.{Replay}
use Rattle.pc_report.specs.declared.rows.Ending.{Ending}
use Rattle.pc_report.specs.Replaying.{commit_kept, ending_in, held}
use Rattle.pc_report.specs.ReportOf.{other_unless}
use Rattle.pc_world.specs.CommitOrder.{all_begun}

-- The list with one more entry in its place, if there is one more.
abbrev pub with_entry_if : {K V : Type 0} → (K → K → Ordering) → Option (K × V) → List (K × V) → List (K × V)
with_entry_if cmp None sorted = sorted
with_entry_if cmp (Some e) sorted = insert_entry cmp sorted e.0 e.1

-- By timestamp, then by commit point.
abbrev pub place_cmp : Rank → Rank → Ordering
place_cmp one other = ordering_then (nat_cmp one.ts other.ts) (nat_cmp one.point other.point)

-- The rank of a transaction that is committed at this timestamp, by its point.
abbrev pub rank_from : Option ℕ → Option ℕ → Option Rank
rank_from None point = None
rank_from (Some ts) None = None
rank_from (Some ts) (Some point) = Some (record { ts = ts; point = point })

-- The rank of a committed transaction, by what was kept.
abbrev pub rank_in : List (List ℕ) → Replay → TxnId → Option Rank
rank_in splits r id = rank_from (commit_kept splits r id) (held r.points id)

-- A committed transaction with its rank.
abbrev pub placed : List (List ℕ) → Replay → TxnId → Option (Rank × TxnId)
placed splits r id = option_map (λ (rank : Rank). (rank, id)) (rank_in splits r id)

-- Of these transactions the committed ones in their order, by what was kept.
abbrev pub order_among : List (List ℕ) → Replay → List TxnId → List (Rank × TxnId)
order_among splits r ids = in_order place_cmp (filter_map (placed splits r) ids)

-- The committed transactions in their order, by what was kept.
abbrev pub order_in : List (List ℕ) → Replay → List (Entry Event) → List (Rank × TxnId)
order_in splits r history = order_among splits r (all_begun history)

-- A transaction that is not committed, with its ending, by what was kept.
abbrev pub other_in : List (List ℕ) → Replay → TxnId → Option (TxnId × Ending)
other_in splits r id = other_unless (commit_kept splits r id) id (ending_in splits r id)

-- Of these transactions those that are not committed, by what was kept.
abbrev pub others_among : List (List ℕ) → Replay → List TxnId → List (TxnId × Ending)
others_among splits r ids = in_order txn_cmp (filter_map (other_in splits r) ids)

-- The transactions that are not committed, by what was kept.
abbrev pub others_in : List (List ℕ) → Replay → List (Entry Event) → List (TxnId × Ending)
others_in splits r history = others_among splits r (all_begun history)
