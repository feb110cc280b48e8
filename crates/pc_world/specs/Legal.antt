-- Legal histories: the committed transactions in their order run on one map, each once, and in each session's order. Serializability
-- with the order of causes; SIGMOD 2020 paper, section 3. That values read and commits met are causes is this project's own profile.
use Rattle.std.specs.Prelude.{◌≡◌, ℕ, Option, None, Some, List, [], ◌∷◌, ◌++◌, ◌⊎◌, map, Any, Contains}
use Rattle.pc_base.specs.declared.actor.ActorId.TheVariants as actors
use Rattle.pc_base.specs.declared.entry.Entry.{Entry}
use Rattle.pc_base.specs.declared.transaction.TxnId.{TxnId}
use Rattle.pc_history.specs.declared.pair.Pair.{Pair}
use Rattle.pc_history.specs.Own.{own}
use Rattle.pc_proto.specs.declared.answer.Answer.TheVariants as answers
use Rattle.pc_proto.specs.declared.event.Event.{Event}
use Rattle.pc_proto.specs.declared.event.Event.TheVariants as events
use Rattle.pc_proto.specs.declared.reply.Origin.{Origin}
use Rattle.pc_proto.specs.declared.reply.Origin.TheVariants as origins
use Rattle.pc_proto.specs.declared.reply.Reply.{Reply}
use Rattle.pc_proto.specs.declared.reply.Reply.TheVariants as replies
use Rattle.pc_proto.specs.declared.request.Request.{Request}
use Rattle.pc_proto.specs.declared.request.Request.TheVariants as requests
use Rattle.pc_world.specs.CommitOrder.{commit_order}
use Rattle.pc_world.specs.Committed.{IsCommitted}
use Rattle.pc_world.specs.Known.{known_of}
use Rattle.pc_world.specs.Known.Traffic.{Heard, heard_by}
use Rattle.pc_world.specs.Local.{Head}
use Rattle.pc_world.specs.MapRun.{IsMapRun}
use Rattle.pc_world.specs.Operations.{Operation, Read, ReadAll, Write, operations_of}
use Rattle.pc_world.specs.Run.{protocol}

-- The operation writes this key.
abbrev pub WritesKey : List ℕ → Operation → Type 0
WritesKey key (Write own seq value) = own ≡ key
WritesKey key (Read own value) = ⊥
WritesKey key (ReadAll span rows) = ⊥

-- The transaction committed a write of this key at the timestamp that the value comes from.
abbrev pub Wrote : Head → List (Entry Event) → TxnId → List ℕ → Origin → Type 0
Wrote head history id key (origins.At ts) = IsCommitted head history id ts × Any (WritesKey key) (operations_of history id)
Wrote head history id key origins.Own = ⊥
Wrote head history id key origins.Nothing = ⊥

-- The reply has a value that the transaction committed.
abbrev pub ShowsWrite : Head → List (Entry Event) → TxnId → Request → Reply → Type 0
ShowsWrite head history id (requests.Get other epoch seq ts key) (replies.Value origin value) = Wrote head history id key origin
ShowsWrite head history id (requests.Scan other epoch seq ts span) (replies.Rows rows) = Any (λ row. Wrote head history id row.0 row.1) rows
ShowsWrite head history id _ _ = ⊥

-- What was heard, if anything, is a reply that has a value that the transaction committed.
abbrev pub ShowsWriteHeard : Head → List (Entry Event) → TxnId → Option Heard → Type 0
ShowsWriteHeard head history id None = ⊥
ShowsWriteHeard head history id (Some h) = ShowsWrite head history id h.request h.reply

-- By this event, after these entries of its own, a session knows that the transaction committed: it is told so, it meets the
-- telling, or it hears a value that the transaction wrote.
abbrev pub Learns : Head → List (Entry Event) → TxnId → List (Pair Event) → Event → Option (Entry Event) → Type 0
Learns head history id before (events.Tell (answers.Committed other ts)) named = other ≡ id
Learns head history id before (events.Meet other step) named = other ≡ id
Learns head history id before (events.Hear number step) named =
    ShowsWriteHeard head history id (heard_by (events.Hear number step) named (known_of before).sent)
Learns head history id before _ named = ⊥

-- The event tells that this transaction began.
abbrev pub TellsBegun : TxnId → Event → Type 0
TellsBegun id (events.Tell (answers.Begun other ts)) = other ≡ id
TellsBegun id _ = ⊥

-- The second transaction began after its session knew that the first had committed.
pub record BeganAfter (head : Head) (history : List (Entry Event)) (id other : TxnId) : Type 0 where
  pub before : List (Pair Event)
  pub learning : Pair Event
  pub between : List (Pair Event)
  pub begin : Pair Event
  pub later : List (Pair Event)
  pub whole : own (protocol head) (actors.Session other.session) history ≡ before ++ learning ∷ between ++ begin ∷ later
  pub learns : Learns head history id before learning.entry.event learning.named
  pub begins : TellsBegun other begin.entry.event

-- In the list the first transaction stands before the second.
abbrev pub StandsBefore : TxnId → TxnId → List TxnId → Type 0
StandsBefore id other [] = ⊥
StandsBefore id other (x ∷ xs) = ((x ≡ id) × Contains xs other) ⊎ StandsBefore id other xs

-- The committed transactions, in their order.
abbrev pub committed_in_order : Head → List (Entry Event) → List TxnId
committed_in_order head history = map (λ e. e.1) (commit_order head history)

-- The committed transactions run on one map, from the empty one on, in the order of their timestamps; and a transaction that began
-- after its session knew of another's commit stands behind it.
pub record IsLegal (head : Head) (history : List (Entry Event)) : Type 0 where
  pub serial : IsMapRun [] (map (operations_of history) (committed_in_order head history))
  pub in_order : (id other : TxnId) (ts later : ℕ) → IsCommitted head history id ts → IsCommitted head history other later
      → BeganAfter head history id other → StandsBefore id other (committed_in_order head history)
