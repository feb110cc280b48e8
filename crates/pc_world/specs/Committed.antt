-- When a transaction is committed: its record says so, or its record is staging and every write that it lists is present. SIGMOD
-- 2020 paper, section 3.1; RFC 20180324, "implicitly committed"; ParallelCommits TLA+, ImplicitCommit. That a removed record leaves
-- a mark, and that a transaction without a put has no record, is this project's own profile.
use Rattle.std.specs.Prelude.{◌≡◌, ℕ, Bool, false, if◌then◌else◌, Option, None, Some, List, [], ◌∷◌, ◌++◌, length, is_some, slice_get}
use Rattle.std.specs.List.{filter_map, list_all}
use Rattle.pc_base.specs.declared.entry.Entry.{Entry}
use Rattle.pc_base.specs.declared.transaction.TxnId.{TxnId}
use Rattle.pc_base.specs.Transaction.{same_txn}
use Rattle.pc_proto.specs.declared.answer.Answer.{Answer}
use Rattle.pc_proto.specs.declared.answer.Answer.TheVariants as answers
use Rattle.pc_proto.specs.declared.event.Event.{Event}
use Rattle.pc_proto.specs.declared.event.Event.TheVariants as events
use Rattle.pc_proto.specs.declared.record.Standing.{Standing}
use Rattle.pc_proto.specs.declared.record.Standing.TheVariants as standings
use Rattle.pc_proto.specs.declared.request.Request.{Request}
use Rattle.pc_proto.specs.declared.request.Request.TheVariants as requests
use Rattle.pc_proto.specs.Place.{Place, Nothing, Kept, Marked}
use Rattle.pc_world.specs.After.{place_at, state_at}
use Rattle.pc_world.specs.Evaluation.Query.{write_stands}
use Rattle.pc_world.specs.Local.{Head}
use Rattle.pc_world.specs.RangeOf.{range_of}

-- A write is present: its key's range has the transaction's intent of this epoch there, with the write's sequence or a later one,
-- at or below this timestamp.
abbrev pub is_present : Head → List (Entry Event) → TxnId → ℕ → ℕ → List ℕ × ℕ → Bool
is_present head history id epoch ts write = write_stands id epoch write.1 ts write.0 (state_at head (range_of head.splits write.0) history)

-- The key of a put of the transaction.
abbrev pub key_put : TxnId → Request → Option (List ℕ)
key_put id (requests.Put meta seq ts key value) = if same_txn meta.id id then Some key else None
key_put id _ = None

-- The key of a put of the transaction that is sent.
abbrev pub key_sent : TxnId → Event → Option (List ℕ)
key_sent id (events.Send number range request) = key_put id request
key_sent id _ = None

-- The transaction's anchor: the key of its first put, if one was sent.
abbrev pub anchor_in : TxnId → List (Entry Event) → Option (List ℕ)
anchor_in id history = slice_get (filter_map (λ e. key_sent id e.event) history) 0

-- The timestamp at which an answer says that the transaction committed.
abbrev pub committed_by : TxnId → Answer → Option ℕ
committed_by id (answers.Committed other ts) = if same_txn other id then Some ts else None
committed_by id _ = None

-- The timestamp at which an event tells that the transaction committed.
abbrev pub committed_in : TxnId → Event → Option ℕ
committed_in id (events.Tell answer) = committed_by id answer
committed_in id _ = None

-- The timestamp at which the transaction was first told committed, if it was.
abbrev pub told_at : TxnId → List (Entry Event) → Option ℕ
told_at id history = slice_get (filter_map (λ e. committed_in id e.event) history) 0

-- The timestamp at which a record or mark commits its transaction: where it is committed, or staging with all its writes present.
abbrev pub commit_by : Standing → ℕ → Bool → Option ℕ
commit_by standings.Committed ts present = Some ts
commit_by standings.Staging ts present = if present then Some ts else None
commit_by standings.Pending ts present = None
commit_by (standings.Aborted why) ts present = None

-- The timestamp at which what its range has of a transaction commits it.
abbrev pub commit_in : Head → List (Entry Event) → TxnId → Place → Option ℕ
commit_in head history id Nothing = None
commit_in head history id (Kept r) =
    commit_by r.status.standing r.status.ts (list_all (is_present head history id r.status.epoch r.status.ts) r.writes)
commit_in head history id (Marked s) = commit_by s.standing s.ts false

-- The timestamp at which a transaction of this anchor is committed: by the range of its anchor, or, with no put, where it was told.
abbrev pub commit_at : Head → List (Entry Event) → TxnId → Option (List ℕ) → Option ℕ
commit_at head history id None = told_at id history
commit_at head history id (Some anchor) = commit_in head history id (place_at head (range_of head.splits anchor) id history)

-- The timestamp at which the transaction is committed after a history, if it is.
abbrev pub commit_ts : Head → List (Entry Event) → TxnId → Option ℕ
commit_ts head history id = commit_at head history id (anchor_in id history)

-- The transaction is committed at this timestamp.
abbrev pub IsCommitted : Head → List (Entry Event) → TxnId → ℕ → Type 0
IsCommitted head history id ts = commit_ts head history id ≡ Some ts

-- How many entries it takes, from these on, until the transaction is committed.
abbrev pub point_after : Head → TxnId → List (Entry Event) → List (Entry Event) → ℕ
point_after head id before [] = length before
point_after head id before (e ∷ es) =
    if is_some (commit_ts head before id) then length before else point_after head id (before ++ e ∷ []) es

-- The commit point of a committed transaction: the length of the shortest beginning of the history after which it is committed.
abbrev pub commit_point : Head → List (Entry Event) → TxnId → ℕ
commit_point head history id = point_after head id [] history
