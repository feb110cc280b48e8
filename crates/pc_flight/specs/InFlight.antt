-- The writes in flight, beside what the session knows of its transaction's writes.
use Rattle.std.specs.Prelude.{◌≡◌, ℕ, ◌<◌, ◌≤◌, Bool, false, ◌&&◌, ◌==◌, ◌⊎◌, not, List, Option, length, map, All, AllPairs, IsTrue}
use Rattle.std.specs.List.{list_any}
use Rattle.pc_base.specs.declared.limits.TheConstants.{MOST_IN_FLIGHT}
use Rattle.pc_base.specs.Span.{same_key}
use Rattle.pc_flight.specs.declared.write.WriteInFlight.{WriteInFlight}
use Rattle.pc_base.specs.declared.transaction.Who.{Who}
use Rattle.pc_proto.specs.declared.meta.TxnMeta.{TxnMeta}
use Rattle.pc_proto.specs.declared.reply.Reply.TheVariants as replies
use Rattle.pc_proto.specs.declared.request.Request.TheVariants as requests
use Rattle.pc_world.specs.Known.Traffic.{Heard}
use Rattle.pc_world.specs.Known.Transactions.{Txn}
use Rattle.pc_world.specs.Known.Writes.{IsProvedBy, Write, is_proved, unproved}

-- The writes stand by sequence, each under one of its own.
abbrev pub AreBySequence : List WriteInFlight → Type 0
AreBySequence flight = AllPairs (λ w later. w.seq < later.seq) flight

-- The writes that are in flight at once: by sequence, and no more than may be.
pub record IsFlight (flight : List WriteInFlight) : Type 0 where
  pub by_sequence : AreBySequence flight
  pub within : length flight ≤ MOST_IN_FLIGHT

-- A write that the session knows, as one in flight.
abbrev pub in_flight_as : Write → WriteInFlight
in_flight_as w = record { key = w.key; seq = w.seq; value = w.value }

-- What is in flight is what the session knows to be sent and not proved, in its order.
abbrev pub AreInFlight : List WriteInFlight → List Write → Type 0
AreInFlight flight writes = flight ≡ map in_flight_as (unproved writes)

-- It is not the write of this key and sequence.
abbrev pub is_another : List ℕ → ℕ → WriteInFlight → Bool
is_another key seq w = not (w.seq == seq && same_key w.key key)

abbrev pub listed_one : WriteInFlight → List ℕ × ℕ
listed_one w = (w.key, w.seq)

-- The writes in flight as a staging record lists them.
abbrev pub listed_in_flight : List WriteInFlight → List (List ℕ × ℕ)
listed_in_flight flight = map listed_one flight

-- None of the writes has this sequence.
abbrev pub HasNoSeq : ℕ → List Write → Type 0
HasNoSeq seq writes = list_any (λ w. w.seq == seq) writes ≡ false

-- The write, where it is proved, is proved at or below this timestamp.
abbrev pub HasLandedBy : ℕ → Write → Type 0
HasLandedBy ts w = IsTrue (is_proved w) → IsProvedBy ts w

-- Each write of the transaction's epoch is in flight, or proved at or below its write timestamp.
pub record FlightStands (flight : List WriteInFlight) (t : Txn) : Type 0 where
  pub in_flight : AreInFlight flight t.writes
  pub landed : All (HasLandedBy t.write_ts) t.writes

-- A put of the transaction's write was heard to be written.
pub record ShowsWritten (t : Txn) (key : List ℕ) (seq : ℕ) (h : Heard) : Type 0 where
  pub meta : TxnMeta
  pub sent_at : ℕ
  pub value : Option (List ℕ)
  pub ts : ℕ
  pub asked : h.request ≡ requests.Put meta seq sent_at key value
  pub whose : meta.id ≡ t.id
  pub epoch_now : meta.epoch ≡ t.epoch
  pub told : h.reply ≡ replies.Written ts

-- A query of the transaction's write found it, no later than its write timestamp.
pub record ShowsFound (t : Txn) (key : List ℕ) (seq : ℕ) (h : Heard) : Type 0 where
  pub ts : ℕ
  pub by : Who
  pub asked : h.request ≡ requests.Query t.id t.epoch seq ts key by
  pub told : h.reply ≡ replies.Found
  pub low : ts ≤ t.write_ts

-- The write was heard to stand.
abbrev pub ShowsStanding : Txn → List ℕ → ℕ → Heard → Type 0
ShowsStanding t key seq h = ShowsWritten t key seq h ⊎ ShowsFound t key seq h
