-- What is to be heard next was evaluated behind what was heard before, where that matters: a heartbeat behind all, what speaks of a record behind what
-- speaks of one, and a write of the open transaction behind each query of a write of it.
use Rattle.std.specs.Prelude.{◌≡◌, ◌≢◌, ℕ, ◌<◌, ◌⊎◌, true, None, Some, List, Contains}
use Rattle.pc_follows.specs.Heartbeats.{is_heartbeat}
use Rattle.pc_follows.specs.WaveEvaluation.{IsSending}
use Rattle.pc_history.specs.declared.pair.Pair.{Pair}
use Rattle.pc_proto.specs.declared.event.Event.{Event}
use Rattle.pc_proto.specs.declared.request.Request.{Request}
use Rattle.pc_proto.specs.Requests.{subject}
use Rattle.pc_txn.specs.Standing.{is_query_of}
use Rattle.pc_world.specs.Known.{Known, known_of, open_txn}
use Rattle.pc_world.specs.Known.Traffic.{Heard, request_sent}
use Rattle.pc_world.specs.Known.Transactions.{Txn}

-- Something was sent after this step.
pub record IsPastSending (own : List (Pair Event)) (step : ℕ) : Type 0 where
  pub sending : Pair Event
  pub there : Contains own sending
  pub sends : IsSending sending.entry.event
  pub above : step < sending.entry.step

-- The reply is to one that goes before this request.
abbrev pub MustComeFirst : Known → Request → Heard → Type 0
MustComeFirst k request g =
    (is_heartbeat request ≡ true) ⊎ ((subject request ≢ None) × (subject g.request ≢ None)) ⊎ ((t : Txn) × (open_txn k ≡ Some t) × (is_query_of t.id g.request ≡ true))

-- Of the messages that wait, by their numbers, each stands behind the replies that were heard to what goes before it: something was sent since.
abbrev pub WaitsBehindHeard : (ℕ → Type 0) → List (Pair Event) → Type 0
WaitsBehindHeard Waits own =
    (number : ℕ) (request : Request) → Waits number → request_sent number (known_of own).sent ≡ Some request
    → (g : Heard) → Contains (known_of own).heard g → MustComeFirst (known_of own) request g → IsPastSending own g.step
