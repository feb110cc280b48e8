-- What holds of the writes in flight whatever is sent again.
use Rattle.std.specs.Prelude.{◌≡◌, ◌==◌, ◌<◌, ◌≤◌, ◌+◌, ℕ, true, false, All, List, Option, Contains, IsTrue, length, not}
use Rattle.std.specs.List.{list_any}
use Rattle.pc_base.specs.declared.span.Span.{Span}
use Rattle.pc_base.specs.Span.{contains, same_key}
use Rattle.pc_flight.specs.declared.write.WriteInFlight.{WriteInFlight}
use Rattle.pc_flight.specs.InFlight.{AreInFlight, FlightStands, HasNoSeq, in_flight_as}
use Rattle.pc_proto.specs.declared.meta.TxnMeta.{TxnMeta}
use Rattle.pc_proto.specs.declared.request.Request.TheVariants as requests
use Rattle.pc_world.specs.Known.Transactions.{Txn, txn_sent}
use Rattle.pc_world.specs.Known.Writes.{IsProvedBy, Write, is_proved, last_seq_of, with_put}
use Rattle.pc_world.specs.Send.Reading.{IsProvedIn}

-- A write that the session knows and may send again, which is in flight so.
pub record IsKnownUnproved (writes : List Write) (f : WriteInFlight) : Type 0 where
  pub w : Write
  pub written : Contains writes w
  pub unproved : IsTrue (not (is_proved w))
  pub same : f ≡ in_flight_as w

-- What holds beside these writes of the session.
pub record FlightsHold : Type 0 where
  -- A write that is sent again leaves what is in flight.
  pub again : (flight : List WriteInFlight) (writes : List Write) (seq ts : ℕ) (key : List ℕ) (value : Option (List ℕ)) → AreInFlight flight writes → list_any (λ w. w.seq == seq) writes ≡ true → AreInFlight flight (with_put seq ts key value writes)
  -- Each write in flight is one that the session knows to be not proved.
  pub known : (flight : List WriteInFlight) (writes : List Write) → AreInFlight flight writes → (f : WriteInFlight) → Contains flight f → IsKnownUnproved writes f
  -- The next sequence is above all.
  pub next : (flight : List WriteInFlight) (writes : List Write) → AreInFlight flight writes → All (λ f. f.seq < last_seq_of writes + 1) flight × HasNoSeq (last_seq_of writes + 1) writes
  -- Where none in flight lies in the span of a read, or has the one key of a write, the session's writes there are proved.
  pub read : (span : Span) (flight : List WriteInFlight) (writes : List Write) → AreInFlight flight writes → list_any (λ f. contains span f.key) flight ≡ false → IsProvedIn span writes
  -- Where none in flight has the key of a new write, the session's writes of it are proved.
  pub first : (key : List ℕ) (flight : List WriteInFlight) (writes : List Write) → AreInFlight flight writes → list_any (λ f. same_key f.key key) flight ≡ false → All (λ w. IsTrue (same_key w.key key) → IsTrue (is_proved w)) writes
  -- What is in flight stands while its transaction's writes stay as they are and its write timestamp does not fall.
  pub on : (flight : List WriteInFlight) (t now : Txn) → FlightStands flight t → now.writes ≡ t.writes → t.write_ts ≤ now.write_ts → FlightStands flight now
  -- It stands when one of its writes is sent again.
  pub resent : (flight : List WriteInFlight) (t : Txn) (meta : TxnMeta) (seq ts : ℕ) (key : List ℕ) (value : Option (List ℕ)) → FlightStands flight t → list_any (λ w. w.seq == seq) t.writes ≡ true → FlightStands flight (txn_sent (requests.Put meta seq ts key value) t)
  -- Where nothing is in flight, each write of the epoch is proved at or below the write timestamp.
  pub done : (flight : List WriteInFlight) (t : Txn) → FlightStands flight t → length flight ≡ 0 → All (IsProvedBy t.write_ts) t.writes
