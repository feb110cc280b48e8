-- Proving: a call waits for the writes in flight that are in its way, all in one wave, and behind its heartbeat; only then it reads, or sends
-- its own new write, behind which it sends and hears nothing more where writes are pipelined. SIGMOD 2020 paper, section 3.1.
use Rattle.std.specs.Prelude.{◌≡◌, ℕ, ◌<◌, Bool, true, false, ◌||◌, Option, None, Some, All, Any, IsTrue, ⊤}
use Rattle.pc_follows.specs.Heartbeats.{HasBeaten}
use Rattle.pc_follows.specs.OwnStages.{IsStillOut}
use Rattle.pc_follows.specs.PipelinedPuts.{IsPutWaitedFor, WaitsFor}
use Rattle.pc_proto.specs.declared.event.Event.{Event}
use Rattle.pc_proto.specs.declared.event.Event.TheVariants as events
use Rattle.pc_proto.specs.declared.request.Request.{Request}
use Rattle.pc_proto.specs.Requests.{is_put, is_put_of, is_stage}
use Rattle.pc_world.specs.Known.{Known, open_txn}
use Rattle.pc_world.specs.Known.Statements.{Statement}
use Rattle.pc_world.specs.Known.Traffic.{Heard}
use Rattle.pc_world.specs.Known.Transactions.{Txn}
use Rattle.pc_world.specs.Known.Writes.{is_proved}
use Rattle.pc_world.specs.SameRequest.{IsSameRequest}
use Rattle.pc_world.specs.Tell.Data.{IsFirstPut}
use Rattle.pc_world.specs.Tell.Refusal.{MayBlock, is_heard}

-- The request puts a write of the open transaction's epoch for which the open call waits.
pub record IsAwaitedPut (k : Known) (request : Request) : Type 0 where
  pub s : Statement
  pub t : Txn
  pub seq : ℕ
  pub asked : k.statement ≡ Some s
  pub opened : open_txn k ≡ Some t
  pub put : IsTrue (is_put_of t.id t.epoch seq request)
  pub may_wait : MayBlock s.call
  pub waits : IsPutWaitedFor k s.call request

-- No put was heard since the call was asked.
abbrev pub HeardNoPut : Known → Type 0
HeardNoPut k = All (λ h. is_put h.request ≡ false) k.heard_now

-- Each write of the transaction for which the call waits is proved, or a message of it is on its way.
abbrev pub AreAwaitedOnWay : Known → Statement → Txn → Type 0
AreAwaitedOnWay k s t = All (λ w. WaitsFor k w.key s.call → (is_proved w ≡ false) → IsStillOut k t w) t.writes

-- Each put of a lower number for which the call waits was heard.
abbrev pub AreHeardBefore : Known → ℕ → Type 0
AreHeardBefore k number = All (λ m. m.number < number → IsAwaitedPut k m.request → IsTrue (is_heard k.heard m)) k.sent

-- What the reply to a put asks for: the call waits for the put, behind its heartbeat; and the first such reply comes once all that it waits
-- for is on its way.
pub record IsInProvingWave (k : Known) (h : Heard) : Type 0 where
  pub awaited : IsAwaitedPut k h.request
  pub beaten : (t : Txn) → open_txn k ≡ Some t → HasBeaten k t
  pub together : (s : Statement) (t : Txn) → k.statement ≡ Some s → open_txn k ≡ Some t → HeardNoPut k → AreAwaitedOnWay k s t

-- The request is a put or a stage.
abbrev pub IsOfPutWave : Request → Type 0
IsOfPutWave request = IsTrue (is_put request || is_stage request)

-- The replies to puts are heard in such waves; and those and the reply to a stage in the order of the messages.
abbrev pub ProvesInWaves : Known → Option Heard → Type 0
ProvesInWaves k None = ⊤
ProvesInWaves k (Some h) = (is_put h.request ≡ true → IsInProvingWave k h) × (IsOfPutWave h.request → AreHeardBefore k h.number)

-- A new write, one of which no message was sent.
pub record IsNewPut (k : Known) (request : Request) : Type 0 where
  pub put : is_put request ≡ true
  pub unsent : All (λ m. IsSameRequest request m.request → ⊥) k.sent

-- A new write goes out once each write for which its call waits is proved.
abbrev pub WritesBehindProved : Known → Event → Type 0
WritesBehindProved k (events.Send number range request) =
    (s : Statement) (t : Txn) → k.statement ≡ Some s → open_txn k ≡ Some t → IsNewPut k request
    → All (λ w. WaitsFor k w.key s.call → IsTrue (is_proved w)) t.writes
WritesBehindProved k _ = ⊤

-- In the open call its own new write was sent.
abbrev pub HasSentOwn : Known → Type 0
HasSentOwn k = (s : Statement) × (t : Txn) × (k.statement ≡ Some s) × (open_txn k ≡ Some t) × Any (IsFirstPut k s t) k.sent_now

-- With pipelining nothing is sent behind the call's own new write.
abbrev pub WritesLast : Bool → Known → Event → Type 0
WritesLast false k event = ⊤
WritesLast true k (events.Send number range request) = HasSentOwn k → ⊥
WritesLast true k _ = ⊤

-- With pipelining nothing is heard behind the call's own new write.
abbrev pub HearsNothingBehind : Bool → Known → Option Heard → Type 0
HearsNothingBehind false k h = ⊤
HearsNothingBehind true k None = ⊤
HearsNothingBehind true k (Some h) = HasSentOwn k → ⊥
