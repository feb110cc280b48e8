-- Which replies to puts a call hears: with pipelining a write is told written before its own put is answered, without it only then;
-- and a call waits for no write but those in its way, unless as many are in flight as there may be. SIGMOD 2020 paper, section 3.1.
use Rattle.std.specs.Prelude.{◌≡◌, ℕ, ◌-◌, ◌≤◌, Bool, true, false, ◌&&◌, not, ◌⊎◌, Option, None, Some, List, [], ◌∷◌, length, take, count_by, All, Any, Contains, IsTrue, ⊤}
use Rattle.std.specs.List.{list_any}
use Rattle.pc_base.specs.declared.limits.TheConstants.{MOST_IN_FLIGHT}
use Rattle.pc_base.specs.Span.{contains}
use Rattle.pc_proto.specs.declared.answer.Answer.TheVariants as answers
use Rattle.pc_proto.specs.declared.call.Call.{Call}
use Rattle.pc_proto.specs.declared.call.Call.TheVariants as calls
use Rattle.pc_proto.specs.declared.event.Event.{Event}
use Rattle.pc_proto.specs.declared.event.Event.TheVariants as events
use Rattle.pc_proto.specs.declared.request.Request.{Request}
use Rattle.pc_proto.specs.declared.request.Request.TheVariants as requests
use Rattle.pc_proto.specs.Replies.{is_written}
use Rattle.pc_proto.specs.Requests.{is_put_of}
use Rattle.pc_world.specs.Known.{Known, call_of, open_txn}
use Rattle.pc_world.specs.Known.Statements.{Statement}
use Rattle.pc_world.specs.Known.Traffic.{Heard, Sent}
use Rattle.pc_world.specs.Known.Transactions.{Txn}
use Rattle.pc_world.specs.Known.Writes.{Write, is_proved, writes_replied}
use Rattle.pc_world.specs.Tell.Data.{IsFirstPut, sent_before}

-- The reply is to the put that the open call itself asked for.
pub record IsToOwnPut (k : Known) (s : Statement) (t : Txn) (h : Heard) : Type 0 where
  pub m : Sent
  pub sent : Contains k.sent_now m
  pub own : IsFirstPut k s t m
  pub to : h.number ≡ m.number

-- With pipelining no reply to the call's own put was heard in it; without, it was heard there to be written.
abbrev pub IsHeardOf : Bool → Known → Statement → Txn → Type 0
IsHeardOf true k s t = All (λ h. IsToOwnPut k s t h → ⊥) k.heard_now
IsHeardOf false k s t = Any (λ h. IsToOwnPut k s t h × IsTrue (is_written h.reply)) k.heard_now

-- A call that is told written heard of its own put as pipelining has it.
abbrev pub TellsWritten : Bool → Known → Event → Type 0
TellsWritten pipelining k (events.Tell answers.Written) =
    (s : Statement) (t : Txn) → k.statement ≡ Some s → open_txn k ≡ Some t → IsHeardOf pipelining k s t
TellsWritten pipelining k _ = ⊤

-- The replies that were heard before the open call.
abbrev pub heard_before : Known → List Heard
heard_before k = take (length k.heard - length k.heard_now) k.heard

-- The reply proves this write of the transaction.
abbrev pub proves : Txn → Write → Heard → Bool
proves t w h = list_any is_proved (writes_replied t.id t.epoch h.request h.reply (record w { proofs = [] } ∷ []))

-- The write was in flight when the last call was asked: it was sent before, and nothing heard before proves it.
abbrev pub was_in_flight : Known → Txn → Write → Bool
was_in_flight k t w =
    list_any (λ m. is_put_of t.id t.epoch w.seq m.request) (sent_before k) && not (list_any (proves t w) (heard_before k))

-- As many writes of the open transaction as there may be were in flight when the last call was asked.
abbrev pub IsFull : Known → Type 0
IsFull k = (t : Txn) × (open_txn k ≡ Some t) × (MOST_IN_FLIGHT ≤ count_by (was_in_flight k t) t.writes)

-- The call waits for writes of this key: it reads the key, or writes it, or writes while no further write may be in flight; a call that
-- neither reads nor writes waits for all.
abbrev pub WaitsFor : Known → List ℕ → Call → Type 0
WaitsFor k key (calls.Get own) = own ≡ key
WaitsFor k key (calls.Scan span) = IsTrue (contains span key)
WaitsFor k key (calls.Put own value) = (own ≡ key) ⊎ IsFull k
WaitsFor k key (calls.Delete own) = (own ≡ key) ⊎ IsFull k
WaitsFor k key _ = ⊤

-- If the request puts a key, the call waits for writes of that key.
abbrev pub IsPutWaitedFor : Known → Call → Request → Type 0
IsPutWaitedFor k call (requests.Put meta seq ts key value) = WaitsFor k key call
IsPutWaitedFor k call _ = ⊤

-- A reply to a put that is heard is to one for which the open call waits.
abbrev pub HearsOnlyItsPuts : Known → Option Heard → Type 0
HearsOnlyItsPuts k None = ⊤
HearsOnlyItsPuts k (Some h) = (call : Call) → call_of k ≡ Some call → IsPutWaitedFor k call h.request
