-- Messages of a call: in an open call a session sends nothing but what its call is for, the heartbeats of its transaction, and the messages of
-- a conflict's round. Own profile.
use Rattle.std.specs.Prelude.{◌≡◌, Bool, true, false, ◌⊎◌, Some, Any, Contains, IsTrue, ⊤}
use Rattle.pc_base.specs.declared.transaction.TxnId.{TxnId}
use Rattle.pc_proto.specs.declared.call.Call.{Call}
use Rattle.pc_proto.specs.declared.call.Call.TheVariants as calls
use Rattle.pc_proto.specs.declared.event.Event.{Event}
use Rattle.pc_proto.specs.declared.event.Event.TheVariants as events
use Rattle.pc_proto.specs.declared.request.Request.{Request}
use Rattle.pc_proto.specs.declared.request.Request.TheVariants as requests
use Rattle.pc_proto.specs.Requests.{IsPutOn, is_abort, is_commit, is_get, is_put_of, is_refresh, is_scan, is_stage, round_of}
use Rattle.pc_follows.specs.Heartbeats.{is_heartbeat}
use Rattle.pc_follows.specs.PipelinedPuts.{WaitsFor}
use Rattle.pc_follows.specs.Rounds.{IsItself}
use Rattle.pc_world.specs.Known.{Known, open_txn}
use Rattle.pc_world.specs.Known.Statements.{Statement}
use Rattle.pc_world.specs.Known.Transactions.{Txn}
use Rattle.pc_world.specs.Known.Writes.{Write}
use Rattle.pc_world.specs.Send.Recovery.{IsBlockedWrite}
use Rattle.pc_world.specs.Tell.Data.{sent_before}
use Rattle.pc_world.specs.Tell.Refusal.{MayBlock}

-- The request is what the call itself asks for: a get, a scan, a put of its key, a commit and the refreshes before it, or the abort of a
-- rollback.
abbrev pub IsPlainFor : Call → Request → Type 0
IsPlainFor (calls.Get key) request = IsTrue (is_get request)
IsPlainFor (calls.Scan span) request = IsTrue (is_scan request)
IsPlainFor (calls.Put key value) request = IsPutOn key request
IsPlainFor (calls.Delete key) request = IsPutOn key request
IsPlainFor calls.Commit request = IsTrue (is_commit request) ⊎ IsTrue (is_refresh request)
IsPlainFor calls.Rollback request = IsTrue (is_abort request)
IsPlainFor _ request = ⊥

-- The request puts again a write of the open transaction's epoch that was sent before the call, and for which the call waits.
pub record IsPutAgain (k : Known) (call : Call) (request : Request) : Type 0 where
  pub t : Txn
  pub w : Write
  pub opened : open_txn k ≡ Some t
  pub written : Contains t.writes w
  pub put : IsTrue (is_put_of t.id t.epoch w.seq request)
  pub before : Any (λ m. IsTrue (is_put_of t.id t.epoch w.seq m.request)) (sent_before k)
  pub waits : WaitsFor k w.key call

-- The request is a query of a write of the open transaction that is blocked in the call.
abbrev pub IsQueryOfOwn : Known → Request → Type 0
IsQueryOfOwn k (requests.Query id epoch seq ts key by) = IsItself k id × IsBlockedWrite k.heard_now id epoch seq
IsQueryOfOwn k _ = ⊥

-- With pipelining a call that reads, writes or commits also puts again the writes for which it waits; and a commit stages, and asks for
-- writes of its stage.
abbrev pub IsPipelinedFor : Known → Call → Request → Type 0
IsPipelinedFor k (calls.Get key) request = IsPutAgain k (calls.Get key) request
IsPipelinedFor k (calls.Scan span) request = IsPutAgain k (calls.Scan span) request
IsPipelinedFor k (calls.Put key value) request = IsPutAgain k (calls.Put key value) request
IsPipelinedFor k (calls.Delete key) request = IsPutAgain k (calls.Delete key) request
IsPipelinedFor k calls.Commit request = IsPutAgain k calls.Commit request ⊎ IsTrue (is_stage request) ⊎ IsQueryOfOwn k request
IsPipelinedFor k _ request = ⊥

-- The request is of a kind that is sent for the call.
abbrev pub IsFor : Bool → Known → Call → Request → Type 0
IsFor false k call request = IsPlainFor call request
IsFor true k call request = IsPlainFor call request ⊎ IsPipelinedFor k call request

-- The request is a heartbeat, in a call that reads, writes or commits.
abbrev pub ShowsLife : Call → Request → Type 0
ShowsLife call request = MayBlock call × IsTrue (is_heartbeat request)

-- The request is of the kind that is sent for the open call, or a heartbeat in it.
pub record IsForCall (pipelining : Bool) (k : Known) (request : Request) : Type 0 where
  pub s : Statement
  pub opened : k.statement ≡ Some s
  pub kind : IsFor pipelining k s.call request ⊎ ShowsLife s.call request

-- The request is a message of a conflict's round.
abbrev pub IsOfRound : Request → Type 0
IsOfRound request = (id : TxnId) × (round_of request ≡ Some id)

-- A message that goes out in an open call is for it, or is one of a conflict's round.
abbrev pub SendsForCall : Bool → Known → Event → Type 0
SendsForCall pipelining k (events.Send number range request) =
    (s : Statement) → k.statement ≡ Some s → IsForCall pipelining k request ⊎ IsOfRound request
SendsForCall pipelining k _ = ⊤
