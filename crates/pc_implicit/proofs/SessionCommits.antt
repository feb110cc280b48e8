-- Who decided that a transaction is committed, and what its session knew of it then.
use Rattle.std.proofs.Common.{◌≡◌, ℕ, ◌<◌, List, ◌∷◌, ◌++◌, map, length, None, Some, Contains, All}
use Rattle.pc_base.specs.declared.actor.ActorId.TheVariants as actors
use Rattle.pc_base.specs.declared.entry.Entry.{Entry}
use Rattle.pc_base.specs.declared.transaction.TxnId.{TxnId}
use Rattle.pc_implicit.proofs.Fronts.{IsFront}
use Rattle.pc_proto.specs.declared.answer.Answer.TheVariants as answers
use Rattle.pc_proto.specs.declared.call.Call.TheVariants as calls
use Rattle.pc_proto.specs.declared.event.Event.{Event}
use Rattle.pc_proto.specs.declared.event.Event.TheVariants as events
use Rattle.pc_proto.specs.declared.meta.TxnMeta.{TxnMeta}
use Rattle.pc_proto.specs.declared.request.Request.TheVariants as requests
use Rattle.pc_world.specs.After.{known_at}
use Rattle.pc_world.specs.Committed.{commit_point}
use Rattle.pc_world.specs.Known.{Known, call_of, open_txn}
use Rattle.pc_world.specs.Known.Transactions.{IsGood, IsMetaOf, Txn}
use Rattle.pc_world.specs.Known.Writes.{IsProvedBy, Write as WriteMade}
use Rattle.pc_world.specs.Local.{Head}
use Rattle.pc_world.specs.Operations.{Operation, Write, operations_of}
use Rattle.pc_world.specs.Send.Commit.{MayDecide}
use Rattle.pc_world.specs.Send.Stage.{MaySendNewStage}
use Rattle.pc_world.specs.StageFate.{SentStage, stage_request}

-- A write as the operation that it is.
abbrev pub written : WriteMade → Operation
written w = Write w.key w.seq w.value

-- The entry sends a commit of the open transaction, in a commit, by what the session knows itself.
pub record DecidesBySend (k : Known) (t : Txn) (ts : ℕ) (e : Entry Event) : Type 0 where
  pub number : ℕ
  pub range : ℕ
  pub meta : TxnMeta
  pub locks : List (List ℕ)
  pub sends : e.event ≡ events.Send number range (requests.Commit meta ts locks)
  pub whose : IsMetaOf t meta
  pub decides : MayDecide k t ts
  pub proved : All (IsProvedBy ts) t.writes

-- The entry tells that the open transaction, which has put nothing, committed.
pub record DecidesByTell (t : Txn) (ts : ℕ) (e : Entry Event) : Type 0 where
  pub tells : e.event ≡ events.Tell (answers.Committed t.id ts)
  pub no_put : t.anchor ≡ None
  pub at_begin : ts ≡ t.begin

-- The entry sends a new stage of the open transaction.
pub record DecidesByStage (k : Known) (t : Txn) (ts : ℕ) (e : Entry Event) : Type 0 where
  pub number : ℕ
  pub range : ℕ
  pub stage : SentStage
  pub sends : e.event ≡ events.Send number range (stage_request stage)
  pub new : MaySendNewStage k stage
  pub own : new.t ≡ t
  pub at : stage.ts ≡ ts

-- What decides: a commit or a stage that is sent, or, where nothing was put, the telling.
pub data Decides (k : Known) (t : Txn) (ts : ℕ) (e : Entry Event) : Type 0 where
  BySend : DecidesBySend k t ts e → Decides k t ts e
  ByStage : DecidesByStage k t ts e → Decides k t ts e
  ByTell : DecidesByTell t ts e → Decides k t ts e

-- After this history the transaction stands as it stood after this other: in its epoch, with its reads, its writes and its
-- operations.
pub record IsStill (head : Head) (before history : List (Entry Event)) (t : Txn) : Type 0 where
  pub now : Txn
  pub mine : Contains (known_at head (actors.Session t.id.session) history).txns now
  pub named : now.id ≡ t.id
  pub epoch : now.epoch ≡ t.epoch
  pub reads : now.reads ≡ t.reads
  pub writes : map written now.writes ≡ map written t.writes
  pub operations : operations_of history t.id ≡ operations_of before t.id

-- What decided that the transaction is committed at this timestamp: an entry of its session, before its commit point, after which
-- nothing more is done in the transaction.
pub record IsDecidedBy (head : Head) (history : List (Entry Event)) (id : TxnId) (ts : ℕ) : Type 0 where
  pub before : List (Entry Event)
  pub e : Entry Event
  pub later : List (Entry Event)
  pub whole : history ≡ before ++ e ∷ later
  pub whose : e.actor ≡ actors.Session id.session
  pub t : Txn
  pub named : t.id ≡ id
  pub opened : open_txn (known_at head (actors.Session id.session) before) ≡ Some t
  pub in_commit : call_of (known_at head (actors.Session id.session) before) ≡ Some calls.Commit
  pub good : IsGood (known_at head (actors.Session id.session) before).heard t ts
  pub decides : Decides (known_at head (actors.Session id.session) before) t ts e
  pub early : length before < commit_point head history id
  pub still : (since : List (Entry Event)) → IsFront since later → IsStill head before (before ++ e ∷ since) t
