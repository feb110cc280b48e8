-- Heartbeats: a transaction that has an anchor shows that it is alive in each call that reads, writes or commits, where a second has passed since
-- it last did: its heartbeat goes out alone, before all else of the call, and the call goes on by its reply. The wire is quiet so far, so that it
-- goes out once and is heard. SIGMOD 2020 paper, section 3.2; that it is sent at calls, by their readings alone, is this project's own profile.
use Rattle.std.specs.Prelude.{◌≡◌, ℕ, ◌+◌, ◌≤◌, Bool, true, false, if◌then◌else◌, ◌⊎◌, Some, List, [], fold, All, Any, IsTrue, ⊤}
use Rattle.pc_base.specs.declared.limits.TheConstants.{HEARTBEAT}
use Rattle.pc_base.specs.declared.transaction.TxnId.{TxnId}
use Rattle.pc_base.specs.Transaction.{same_txn}
use Rattle.pc_proto.specs.declared.answer.Answer.{Answer}
use Rattle.pc_proto.specs.declared.answer.Answer.TheVariants as answers
use Rattle.pc_proto.specs.declared.event.Event.{Event}
use Rattle.pc_proto.specs.declared.event.Event.TheVariants as events
use Rattle.pc_proto.specs.declared.meta.TxnMeta.{TxnMeta}
use Rattle.pc_proto.specs.declared.request.Request.{Request}
use Rattle.pc_proto.specs.declared.request.Request.TheVariants as requests
use Rattle.pc_proto.specs.declared.why.Why.{Why}
use Rattle.pc_world.specs.Known.{Known, open_txn, reading_of}
use Rattle.pc_world.specs.Known.Statements.{Statement}
use Rattle.pc_world.specs.Known.Traffic.{Heard, Sent}
use Rattle.pc_world.specs.Known.Transactions.{IsMetaOf, Txn}
use Rattle.pc_world.specs.StageFate.{IsDead, IsLate, SomeStage}
use Rattle.pc_world.specs.Tell.Refusal.{MayBlock, is_heard}
use Rattle.pc_world.specs.Views.{ShowsAborted, WasCommitted}

-- The request is a heartbeat.
abbrev pub is_heartbeat : Request → Bool
is_heartbeat (requests.Beat meta ts now) = true
is_heartbeat _ = false

-- The reading at which the transaction last showed that it is alive, after one more message, where it was this before.
abbrev pub shown_by : TxnId → ℕ → Request → ℕ
shown_by id last (requests.Beat meta ts now) = if same_txn meta.id id then now else last
shown_by id last _ = last

-- The reading at which the transaction last showed that it is alive: that of its last heartbeat that was sent, else that of its begin.
abbrev pub last_shown : Txn → List Sent → ℕ
last_shown t sent = fold (λ last m. shown_by t.id last m.request) t.born sent

-- The transaction's heartbeat is due: nothing was sent yet in the open call, which reads, writes or commits; the transaction, which is open, has
-- an anchor, and nothing that was heard shows it committed; and the call's reading is at least a second above that at which it last showed that
-- it is alive.
pub record IsBeatDue (k : Known) (t : Txn) : Type 0 where
  pub s : Statement
  pub opened : k.statement ≡ Some s
  pub asks : MayBlock s.call
  pub first : k.sent_now ≡ []
  pub whose : open_txn k ≡ Some t
  pub anchor : List ℕ
  pub anchored : t.anchor ≡ Some anchor
  pub uncommitted : (ts : ℕ) → WasCommitted k.heard t.id ts → ⊥
  pub late : last_shown t k.sent + HEARTBEAT ≤ s.reading

-- The request is the transaction's heartbeat in the open call: with its meta, at its write timestamp and the call's reading.
pub record IsBeatNow (k : Known) (t : Txn) (request : Request) : Type 0 where
  pub meta : TxnMeta
  pub whose : IsMetaOf t meta
  pub now : ℕ
  pub read_now : reading_of k ≡ Some now
  pub is : request ≡ requests.Beat meta t.write_ts now

-- One of the transaction's stages is late and not dead, so that a recovery may have committed it: the one other reason for a heartbeat, before a call is
-- told to restart or that it is blocked. RFC 20180324.
abbrev pub IsStageInDoubt : Known → Txn → Type 0
IsStageInDoubt k t = SomeStage t.id k.sent (λ s. IsLate k.heard s × (IsDead k.heard s → ⊥))

-- Each heartbeat that went out in the open call was heard.
abbrev pub AreBeatsHeard : Known → Type 0
AreBeatsHeard k = All (λ m. IsTrue (is_heartbeat m.request) → IsTrue (is_heard k.heard m)) k.sent_now

-- The reply is to a heartbeat, and shows that the transaction was aborted for this cause.
pub record FindsAborted (t : Txn) (why : Why) (h : Heard) : Type 0 where
  pub beat : IsTrue (is_heartbeat h.request)
  pub aborted : ShowsAborted t.id why h

-- The open call may go on: no heartbeat is due in it, each that went out was heard, and none found the transaction aborted.
pub record HasBeaten (k : Known) (t : Txn) : Type 0 where
  pub none_due : IsBeatDue k t → ⊥
  pub heard : AreBeatsHeard k
  pub alive : (why : Why) → Any (FindsAborted t why) k.heard_now → ⊥

-- What goes out in the call is the heartbeat that is due; or, once the call may go on, another message, and a heartbeat only for a stage in doubt.
abbrev pub BeatsFirst : Known → Txn → Request → Type 0
BeatsFirst k t request = (IsBeatDue k t × IsBeatNow k t request) ⊎ (HasBeaten k t × (IsTrue (is_heartbeat request) → IsStageInDoubt k t))

-- The call is told its answer where no heartbeat is due and each that went out was heard; and where one found the transaction aborted, that is the
-- answer.
pub record TellsAfterBeats (k : Known) (t : Txn) (answer : Answer) : Type 0 where
  pub none_due : IsBeatDue k t → ⊥
  pub heard : AreBeatsHeard k
  pub aborted : (why : Why) → Any (FindsAborted t why) k.heard_now → answer ≡ answers.Aborted why

-- In an open call, whose transaction is open, heartbeats go out first where they are due, and nowhere else. (Elsewhere the protocol allows none.)
abbrev pub KeepsHeartbeats : Known → Event → Type 0
KeepsHeartbeats k (events.Send number range request) = (s : Statement) (t : Txn) → k.statement ≡ Some s → open_txn k ≡ Some t → BeatsFirst k t request
KeepsHeartbeats k (events.Tell answer) = (s : Statement) (t : Txn) → k.statement ≡ Some s → open_txn k ≡ Some t → TellsAfterBeats k t answer
KeepsHeartbeats k _ = ⊤
