-- What is kept of a history while it is replayed, entry by entry.
use Rattle.std.specs.Prelude.{◌≡◌, ℕ, ◌+◌, ◌≤◌, Bool, true, false, if◌then◌else◌, Option, None, Some, List, [], ◌++◌, find, is_some, length, slice_get, slice_set, unwrap_or, ⊤}
use Rattle.std.specs.BTreeMap.{BTreeMap, get}
use Rattle.std.specs.List.{list_all}
use Rattle.pc_base.specs.declared.actor.ActorId.{ActorId}
use Rattle.pc_base.specs.declared.actor.ActorId.TheVariants as actors
use Rattle.pc_base.specs.declared.entry.Entry.{Entry}
use Rattle.pc_base.specs.declared.transaction.TxnId.{TxnId}
use Rattle.pc_base.specs.Transaction.{same_txn, txn_cmp}
use Rattle.pc_proto.specs.declared.answer.Answer.{Answer}
use Rattle.pc_proto.specs.declared.answer.Answer.TheVariants as answers
use Rattle.pc_proto.specs.declared.event.Event.{Event}
use Rattle.pc_proto.specs.declared.event.Event.TheVariants as events
use Rattle.pc_proto.specs.declared.request.Request.{Request}
use Rattle.pc_proto.specs.declared.request.Request.TheVariants as requests
use Rattle.pc_proto.specs.declared.why.Why.{Why}
use Rattle.pc_proto.specs.Place.{Place, Nothing, Kept, Marked}
use Rattle.pc_proto.specs.Requests.{subject}
use Rattle.pc_proto.specs.Table.{place_of}
use Rattle.pc_report.specs.declared.replay.Replay.{Replay}
use Rattle.pc_report.specs.declared.rows.Ending.{Ending}
use Rattle.pc_report.specs.declared.rows.Ending.TheVariants as endings
use Rattle.pc_report.specs.ReportOf.{ending_at, rolled_back, told_ending}
use Rattle.pc_report.specs.Seen.{HasNoStage, seen}
use Rattle.pc_world.specs.After.{state_at}
use Rattle.pc_world.specs.Committed.{anchor_in, commit_by, commit_ts, point_after, told_at}
use Rattle.pc_world.specs.Evaluation.{state_after}
use Rattle.pc_world.specs.Evaluation.Query.{write_stands}
use Rattle.pc_world.specs.Local.{Head}
use Rattle.pc_world.specs.Named.{names, request_named}
use Rattle.pc_world.specs.RangeOf.{range_of}
use Rattle.pc_world.specs.RangeState.{RangeState, no_state}
use Rattle.pc_world.specs.Stamps.{HasRoom}

-- The first value, or else the second.
abbrev pub first_of : {A : Type 0} → Option A → Option A → Option A
first_of None later = later
first_of (Some first) later = Some first

-- A value, for this transaction alone.
abbrev pub only_for : {A : Type 0} → TxnId → A → TxnId → Option A
only_for id value other = if same_txn id other then Some value else None

-- What a table has of a transaction.
abbrev pub held : {A : Type 0} → BTreeMap TxnId A → TxnId → Option A
held table id = get txn_cmp table id

-- A table has of each transaction what this says.
abbrev pub Holds : {A : Type 0} → BTreeMap TxnId A → (TxnId → Option A) → Type 0
Holds table said = (id : TxnId) → held table id ≡ said id

-- A table after an event that tells something of transactions: each keeps what it had first.
abbrev pub Notes : {A : Type 0} → (TxnId → Event → Option A) → BTreeMap TxnId A → Event → BTreeMap TxnId A → Type 0
Notes said old event new = (id : TxnId) → held new id ≡ first_of (held old id) (said id event)

-- The request of the message that an event evaluates, after these entries.
abbrev pub asked_in : List (Entry Event) → Event → Option Request
asked_in before event = request_named (find (λ e. names event e) before)

-- The transaction whose record or intents a request may change.
abbrev pub touched : Request → Option TxnId
touched (requests.Put meta seq ts key value) = Some meta.id
touched (requests.Resolve id key fate) = Some id
touched request = subject request

-- The transaction that an answer commits.
abbrev pub touched_by_answer : Answer → Option TxnId
touched_by_answer (answers.Committed id ts) = Some id
touched_by_answer _ = None

-- The transaction whose anchor a request may be.
abbrev pub touched_by_send : Request → Option TxnId
touched_by_send (requests.Put meta seq ts key value) = Some meta.id
touched_by_send _ = None

-- The transaction that a request may change, if there is a request.
abbrev pub touched_by : Option Request → Option TxnId
touched_by None = None
touched_by (Some request) = touched request

-- The transaction that an event may commit, where it evaluates this request.
abbrev pub touched_in : Option Request → Event → Option TxnId
touched_in asked (events.Send number range request) = touched_by_send request
touched_in asked (events.Tell answer) = touched_by_answer answer
touched_in asked _ = touched_by asked

-- The range's state; a range that is not there has none.
abbrev pub state_kept : List RangeState → ℕ → RangeState
state_kept states range = unwrap_or (slice_get states range) no_state

-- The states after a range has evaluated a request.
abbrev pub after_eval : List RangeState → ℕ → Request → List RangeState
after_eval states range request = slice_set states range (state_after request (state_kept states range))

-- There is room for the request on the range, if it is there.
abbrev pub HasRoomAt : List RangeState → ℕ → Request → Type 0
HasRoomAt states range request = (s : RangeState) → slice_get states range ≡ Some s → HasRoom request s

-- A write is present, by these states.
abbrev pub is_present_in : List (List ℕ) → List RangeState → TxnId → ℕ → ℕ → List ℕ × ℕ → Bool
is_present_in splits states id epoch ts write = write_stands id epoch write.1 ts write.0 (state_kept states (range_of splits write.0))

-- The timestamp at which what a range has of a transaction commits it, by these states.
abbrev pub commit_of_place : List (List ℕ) → List RangeState → TxnId → Place → Option ℕ
commit_of_place splits states id Nothing = None
commit_of_place splits states id (Kept r) =
    commit_by r.status.standing r.status.ts (list_all (is_present_in splits states id r.status.epoch r.status.ts) r.writes)
commit_of_place splits states id (Marked s) = commit_by s.standing s.ts false

-- What the range of this key has of a transaction.
abbrev pub place_in : List (List ℕ) → List RangeState → List ℕ → TxnId → Place
place_in splits states anchor id = place_of id (state_kept states (range_of splits anchor)).table

-- The timestamp at which a transaction of this anchor, told committed at this timestamp, is committed.
abbrev pub commit_from : List (List ℕ) → List RangeState → TxnId → Option (List ℕ) → Option ℕ → Option ℕ
commit_from splits states id None told = told
commit_from splits states id (Some anchor) told = commit_of_place splits states id (place_in splits states anchor id)

-- The timestamp at which the transaction is committed, by what was kept.
abbrev pub commit_kept : List (List ℕ) → Replay → TxnId → Option ℕ
commit_kept splits r id = commit_from splits r.states.items id (held r.anchors id) (held r.told id)

-- The ending of a transaction of this anchor.
abbrev pub ending_there : List (List ℕ) → List RangeState → TxnId → Option (List ℕ) → Option Why → Ending
ending_there splits states id None told = told_ending told endings.NoRecord
ending_there splits states id (Some anchor) told = ending_at (place_in splits states anchor id) told

-- The ending of a transaction that is not committed, by what was kept.
abbrev pub ending_in : List (List ℕ) → Replay → TxnId → Ending
ending_in splits r id = ending_there splits r.states.items id (held r.anchors id) (held r.rolled_back id)

-- States of ranges on which nothing has happened, one more than there are splits.
pub record AreBlank (splits : ℕ) (states : List RangeState) : Type 0 where
  pub count : length states ≡ splits + 1
  pub each : (range : ℕ) → range ≤ splits → slice_get states range ≡ Some no_state

-- Splits alone: what was committed doesn't depend on how many sessions and recoverers there are.
abbrev pub over : List (List ℕ) → Head
over splits = record { splits = splits; sessions = 0; recoverers = 0 }

-- The states are what is kept of the ranges after the history.
pub record AreSeen (whole : Bool) (splits : List (List ℕ)) (history : List (Entry Event)) (states : List RangeState) : Type 0 where
  pub count : length states ≡ length splits + 1
  pub each : (range : ℕ) → range ≤ length splits → slice_get states range ≡ Some (seen whole (state_at (over splits) range history))

-- The states are those of the ranges after the history.
abbrev pub AreStates : List (List ℕ) → List (Entry Event) → List RangeState → Type 0
AreStates splits history states = AreSeen true splits history states

-- The transaction is not committed after any beginning of the history, or it first was after so many entries.
abbrev pub IsPoint : Head → List (Entry Event) → TxnId → Option ℕ → Type 0
IsPoint head history id None =
    (commit_ts head history id ≡ None) × ((later : List (Entry Event)) → point_after head id [] (history ++ later) ≡ point_after head id history later)
IsPoint head history id (Some point) = (later : List (Entry Event)) → point_after head id [] (history ++ later) ≡ point

-- What was kept is that of the history.
pub record IsReplayOf (splits : List (List ℕ)) (history : List (Entry Event)) (r : Replay) : Type 0 where
  pub states : AreSeen r.whole splits history r.states.items
  pub unstaged : r.whole ≡ false → (range : ℕ) → HasNoStage (state_at (over splits) range history)
  pub anchors : Holds r.anchors (λ id. anchor_in id history)
  pub told : Holds r.told (λ id. told_at id history)
  pub rolled_back : Holds r.rolled_back (λ id. rolled_back id history)
  pub points : (id : TxnId) → IsPoint (over splits) history id (held r.points id)

-- The states after an entry of this actor that evaluates this request, if it evaluates one.
abbrev pub states_after : List RangeState → ActorId → Option Request → List RangeState
states_after states (actors.Range range) (Some request) = after_eval states range request
states_after states (actors.Range range) None = states
states_after states (actors.Session session) asked = states
states_after states (actors.Recoverer recoverer) asked = states

-- There is room for the request that the actor evaluates, if it evaluates one.
abbrev pub HasRoomFor : List RangeState → ActorId → Option Request → Type 0
HasRoomFor states (actors.Range range) (Some request) = HasRoomAt states range request
HasRoomFor states _ _ = ⊤

-- The transaction, if there is one and it is committed.
abbrev pub committed_one : (TxnId → Option ℕ) → Option TxnId → Option TxnId
committed_one commit None = None
committed_one commit (Some id) = if is_some (commit id) then Some id else None

-- A point for this transaction alone, if there is one.
abbrev pub point_for : Option TxnId → ℕ → TxnId → Option ℕ
point_for None length id = None
point_for (Some one) length id = only_for one length id

-- The points after an event that may commit this transaction.
abbrev pub PointsFollow : List (List ℕ) → Option TxnId → ℕ → Replay → Replay → Type 0
PointsFollow splits touched length old new =
    (id : TxnId) → held new.points id ≡ first_of (held old.points id) (point_for (committed_one (commit_kept splits new) touched) length id)
