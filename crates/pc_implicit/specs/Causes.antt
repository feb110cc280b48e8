-- Why a transaction is aborted: each abort names its cause. Own profile.
use Rattle.std.specs.Prelude.{◌≡◌, ℕ, true, None, Some, List, [], ◌∷◌, ◌++◌, Contains}
use Rattle.pc_base.specs.declared.actor.ActorId.TheVariants as actors
use Rattle.pc_base.specs.declared.entry.Entry.{Entry}
use Rattle.pc_base.specs.declared.transaction.Priority.{Priority}
use Rattle.pc_base.specs.declared.transaction.TxnId.{TxnId}
use Rattle.pc_base.specs.declared.transaction.Who.{Who}
use Rattle.pc_implicit.specs.Decided.{decision}
use Rattle.pc_implicit.specs.Reads.{RangeEvaluated}
use Rattle.pc_implicit.specs.Replied.{WasReplied}
use Rattle.pc_implicit.specs.Restarts.{WasRestarted}
use Rattle.pc_implicit.specs.Stages.{WasStaged}
use Rattle.pc_implicit.specs.Writes.{home_of}
use Rattle.pc_proto.specs.declared.call.Call.TheVariants as calls
use Rattle.pc_proto.specs.declared.event.Event.{Event}
use Rattle.pc_proto.specs.declared.event.Event.TheVariants as events
use Rattle.pc_proto.specs.declared.fate.Finding.TheVariants as findings
use Rattle.pc_proto.specs.declared.fate.Goal.TheVariants as goals
use Rattle.pc_proto.specs.declared.meta.TxnMeta.{TxnMeta}
use Rattle.pc_proto.specs.declared.record.Standing.TheVariants as standings
use Rattle.pc_proto.specs.declared.reply.Reply.TheVariants as replies
use Rattle.pc_proto.specs.declared.request.Request.TheVariants as requests
use Rattle.pc_proto.specs.declared.why.Why.{Why}
use Rattle.pc_proto.specs.declared.why.Why.TheVariants as whys
use Rattle.pc_proto.specs.RecordRows.Push.{wins}
use Rattle.pc_proto.specs.RecordRows.Reached.{is_staged_at, status_of}
use Rattle.pc_world.specs.After.{known_at, place_at}
use Rattle.pc_world.specs.Known.{call_of, open_txn}
use Rattle.pc_world.specs.Known.Transactions.{Txn}
use Rattle.pc_world.specs.Local.{Head}
use Rattle.pc_world.specs.Run.{IsRun}
use Rattle.pc_world.specs.Send.Abort.{own_cause}
use Rattle.pc_world.specs.StageFate.{SentStage}

-- With this entry the transaction becomes aborted, for this cause: it was not decided before, and its record says so after it.
pub record IsAbortedAt (head : Head) (before : List (Entry Event)) (e : Entry Event) (id : TxnId) (why : Why) : Type 0 where
  pub undecided : decision (home_of head id before) ≡ None
  pub epoch : ℕ
  pub ts : ℕ
  pub aborted : decision (home_of head id (before ++ e ∷ [])) ≡ Some (status_of (standings.Aborted why) epoch ts)

-- The entry evaluates a push by this one, which asks that the transaction aborts, and wins.
pub record IsPushedBy (head : Head) (before : List (Entry Event)) (e : Entry Event) (id : TxnId) (by : Who) : Type 0 where
  pub range : ℕ
  pub holder : TxnMeta
  pub level : Priority
  pub now : ℕ
  pub push : RangeEvaluated head before range (λ request reply. request ≡ requests.Push holder by level now goals.Abort) e
  pub whose : holder.id ≡ id
  pub won : wins holder level now (place_at head range id before) ≡ true

-- The entry evaluates a recovery of the staging record that names this key: the stage that was sent lists a write of it, and before the
-- recovery a query by this one missed it at the staged timestamp.
pub record IsFoundMissing (head : Head) (before : List (Entry Event)) (e : Entry Event) (id : TxnId) (key : List ℕ) (by : Who) : Type 0 where
  pub range : ℕ
  pub epoch : ℕ
  pub ts : ℕ
  pub anchor : List ℕ
  pub recovery : RangeEvaluated head before range (λ request reply. request ≡ requests.Recover id epoch ts anchor (findings.Missing key by)) e
  pub staging : is_staged_at (place_at head range id before) epoch ts ≡ true
  pub stage : SentStage
  pub sent : WasStaged before stage
  pub whose : stage.meta.id ≡ id
  pub epoch_is : stage.meta.epoch ≡ epoch
  pub ts_is : stage.ts ≡ ts
  pub seq : ℕ
  pub listed : Contains stage.writes (key, seq)
  pub missed : WasReplied before (requests.Query id epoch seq ts key by) replies.Missing

-- The entry evaluates an abort that the transaction's session sent in a rollback, with the cause that the last answer gave: the write
-- that made it restart, where that was it, else the client's wish.
pub record IsGivenUpBy (head : Head) (before : List (Entry Event)) (e : Entry Event) (id : TxnId) (why : Why) : Type 0 where
  pub range : ℕ
  pub meta : TxnMeta
  pub locks : List (List ℕ)
  pub abort : RangeEvaluated head before range (λ request reply. request ≡ requests.Abort meta why locks) e
  pub front : List (Entry Event)
  pub send : Entry Event
  pub back : List (Entry Event)
  pub sent : before ≡ front ++ send ∷ back
  pub number : ℕ
  pub sends : send.event ≡ events.Send number range (requests.Abort meta why locks)
  pub t : Txn
  pub opened : open_txn (known_at head (actors.Session id.session) front) ≡ Some t
  pub whose : t.id ≡ id
  pub asked : call_of (known_at head (actors.Session id.session) front) ≡ Some calls.Rollback
  pub cause : why ≡ own_cause t.restart

-- The entry is what the cause says.
abbrev pub IsCauseAt : Head → List (Entry Event) → Entry Event → TxnId → Why → Type 0
IsCauseAt head before e id (whys.Pushed by) = IsPushedBy head before e id by
IsCauseAt head before e id (whys.Missing key by) = IsFoundMissing head before e id key by
IsCauseAt head before e id (whys.Refresh key ts) =
    IsGivenUpBy head before e id (whys.Refresh key ts) × WasRestarted before (actors.Session id.session) key ts
IsCauseAt head before e id whys.Client = IsGivenUpBy head before e id whys.Client

-- The entry of the history with which the transaction became aborted is what the cause says.
pub record HasItsCause (head : Head) (history : List (Entry Event)) (id : TxnId) (why : Why) : Type 0 where
  pub before : List (Entry Event)
  pub e : Entry Event
  pub later : List (Entry Event)
  pub whole : history ≡ before ++ e ∷ later
  pub aborts : IsAbortedAt head before e id why
  pub cause : IsCauseAt head before e id why

-- Aborts have causes: where a record or mark says that its transaction is aborted, the cause that it names is what it says.
abbrev pub AbortsHaveCauses : Type 0
AbortsHaveCauses =
    (head : Head) (history : List (Entry Event)) (id : TxnId) (why : Why) (epoch ts : ℕ)
    → IsRun head history → decision (home_of head id history) ≡ Some (status_of (standings.Aborted why) epoch ts)
    → HasItsCause head history id why
