-- What of a call's messages stands aside: the puts that wait in the outbox, and what was sent and is not heard.
use Rattle.std.specs.Prelude.{◌≡◌, ◌≢◌, ℕ, Bool, true, false, ◌&&◌, ◌⊎◌, Option, Some, List, [], All, Any, IsTrue, ⊤}
use Rattle.pc_base.specs.Span.{same_key}
use Rattle.pc_call.specs.declared.later.LaterPut.{LaterPut}
use Rattle.pc_call.specs.declared.purpose.Purpose.{Purpose}
use Rattle.pc_call.specs.declared.purpose.Purpose.TheVariants as purposes
use Rattle.pc_call.specs.Outbox.{IsOnWayAs}
use Rattle.pc_call.specs.Serving.{write_call}
use Rattle.pc_call.specs.Stages.{HasOutbox, KeepsOutbox}
use Rattle.pc_coord.specs.Coordination.{is_writing}
use Rattle.pc_txn.specs.declared.txn.OpenTxn.{OpenTxn}
use Rattle.pc_txn.specs.Standing.{is_query_of}
use Rattle.pc_wave.specs.declared.message.Message.{Message}
use Rattle.pc_wave.specs.Messages.{is_to_send}
use Rattle.pc_wave.specs.Standing.{goes_beside}
use Rattle.pc_world.specs.Known.{Known, call_of, open_txn}
use Rattle.pc_world.specs.Known.Traffic.{Sent}
use Rattle.pc_world.specs.Known.Transactions.{Txn}
use Rattle.pc_world.specs.Tell.Refusal.{is_heard}

-- The message was heard in the open call, or goes beside the waves of calls, or is on its way among these messages.
abbrev pub IsHeardOrOut : Known → List Message → Sent → Type 0
IsHeardOrOut k messages m = IsTrue (is_heard k.heard_now m) ⊎ (goes_beside m.request ≡ true) ⊎ Any (IsOnWayAs m) messages

-- No query that goes beside the waves of the open call asks for a write of the open transaction.
abbrev pub AsksForOthers : Known → Type 0
AsksForOthers k = (t : Txn) → open_txn k ≡ Some t → All (λ m. goes_beside m.request ≡ true → is_query_of t.id m.request ≡ false) k.sent_now

-- While a write of a stage is asked for, nothing waits: all that waited joined the wave of the stage.
abbrev pub LeavesNoneWaiting : Purpose → List LaterPut → Type 0
LeavesNoneWaiting (purposes.Query refusals holder puts) later = later ≡ []
LeavesNoneWaiting purpose later = ⊤

-- The call waits for proofs.
abbrev pub IsProving : Purpose → Type 0
IsProving (purposes.Prove call all) = ⊤
IsProving purpose = ⊥

-- A call that waits for proofs has messages.
abbrev pub HasProofs : Purpose → List Message → Type 0
HasProofs (purposes.Prove call all) messages = messages ≢ []
HasProofs purpose messages = ⊤

-- Where a put is told written at once, no write of its key is in flight.
abbrev pub IsFreeToLay : Bool → Known → OpenTxn → Type 0
IsFreeToLay false k x = ⊤
IsFreeToLay true k x = (key : List ℕ) (value : Option (List ℕ)) → call_of k ≡ Some (write_call key value) → All (λ w. same_key w.key key ≡ false) x.in_flight

-- Where a put is told written at once, it has not gone out yet.
abbrev pub AreUnsent : Bool → List Message → Type 0
AreUnsent false messages = ⊤
AreUnsent true messages = All (λ m. is_to_send m ≡ true) messages

-- These puts wait in the outbox beside the messages of the open call, of which, where nothing is lost, each that went out was heard or is on its way.
pub record KeepsAside (loses pipelining : Bool) (k : Known) (x : OpenTxn) (purpose : Purpose) (later : List LaterPut) (messages : List Message) : Type 0 where
  pub outbox : KeepsOutbox loses k x later messages
  pub joined : LeavesNoneWaiting purpose later
  pub some : HasProofs purpose messages
  pub heard : loses ≡ false → All (IsHeardOrOut k messages) k.sent_now
  pub others : AsksForOthers k
  pub free : IsFreeToLay (pipelining && is_writing purpose) k x
  pub unsent : AreUnsent (pipelining && is_writing purpose) messages

-- So they wait where no message of the open call is on its way.
pub record HasAside (loses : Bool) (k : Known) (x : OpenTxn) (later : List LaterPut) : Type 0 where
  pub outbox : HasOutbox loses k x later
  pub heard : loses ≡ false → All (IsHeardOrOut k []) k.sent_now
  pub others : AsksForOthers k
