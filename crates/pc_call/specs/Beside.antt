-- What went out in an open call beside what its messages ask for now: messages of rounds, requests that are over, each of which was sent once more than it met
-- intents, and what puts or asks for writes that are proved.
use Rattle.std.specs.Prelude.{◌≡◌, ◌≢◌, ℕ, ◌==◌, ◌&&◌, ◌||◌, Bool, true, false, ◌⊎◌, List, All, Any, IsTrue}
use Rattle.pc_base.specs.declared.transaction.TxnId.{TxnId}
use Rattle.pc_base.specs.Transaction.{same_txn}
use Rattle.pc_flight.specs.declared.write.WriteInFlight.{WriteInFlight}
use Rattle.pc_follows.specs.AgainInOneWave.{WasSentPastConflicts}
use Rattle.pc_proto.specs.declared.request.Request.{Request}
use Rattle.pc_proto.specs.declared.request.Request.TheVariants as requests
use Rattle.pc_proto.specs.Requests.{is_put_of}
use Rattle.pc_wave.specs.Standing.{goes_beside}
use Rattle.pc_world.specs.Known.{Known}
use Rattle.pc_world.specs.Known.Traffic.{Sent}
use Rattle.pc_world.specs.SameRequest.{IsSameRequest}

-- The request is a query.
abbrev pub is_query : Request → Bool
is_query (requests.Query id epoch seq ts key by) = true
is_query _ = false

-- The request asks whether the write of this epoch and sequence stands.
abbrev pub asks_for_write : TxnId → ℕ → ℕ → Request → Bool
asks_for_write id epoch seq (requests.Query other at n ts key by) = same_txn other id && (at == epoch && n == seq)
asks_for_write id epoch seq _ = false

-- The request puts a write of this epoch, or asks for it, which is none of these in flight: it is proved.
pub record IsOfProved (id : TxnId) (epoch : ℕ) (flight : List WriteInFlight) (request : Request) : Type 0 where
  pub seq : ℕ
  pub of : IsTrue (is_put_of id epoch seq request || asks_for_write id epoch seq request)
  pub none : All (λ w. w.seq ≢ seq) flight

-- The request puts one of these writes in flight, or is of one that is proved.
abbrev pub IsOfWrite : TxnId → ℕ → List WriteInFlight → Request → Type 0
IsOfWrite id epoch flight request = Any (λ w. IsTrue (is_put_of id epoch w.seq request)) flight ⊎ IsOfProved id epoch flight request

-- The request is no query, and was sent in the call once more than it met intents there.
pub record IsPastOrNoQuery (k : Known) (request : Request) : Type 0 where
  pub past : WasSentPastConflicts k request
  pub unasked : is_query request ≡ false

-- The request is none of these, and is over.
pub record IsDoneBeside (k : Known) (asked : List Request) (request : Request) : Type 0 where
  pub other : All (λ r. IsSameRequest r request → ⊥) asked
  pub over : IsPastOrNoQuery k request

-- Each message that was sent in the open call goes beside the waves of calls, or its request is over.
abbrev pub ArePastOrBeside : Known → Type 0
ArePastOrBeside k = All (λ m. IsTrue (goes_beside m.request) ⊎ IsPastOrNoQuery k m.request) k.sent_now

-- The message goes beside the waves of calls, or its request is one of these, or is over, or waits.
abbrev pub IsAskedOrDone : (Request → Type 0) → Known → List Request → Sent → Type 0
IsAskedOrDone waits k asked m =
    IsTrue (goes_beside m.request) ⊎ Any (λ r. IsSameRequest r m.request) asked ⊎ IsDoneBeside k asked m.request ⊎ waits m.request

-- So is each message that was sent in the open call.
abbrev pub AreAskedOrDone : (Request → Type 0) → Known → List Request → Type 0
AreAskedOrDone waits k asked = All (IsAskedOrDone waits k asked) k.sent_now

-- The message goes beside the waves of calls, or its request is over, or it puts a write of these in flight, or is of one that is proved.
abbrev pub IsPastOrInFlight : Known → TxnId → ℕ → List WriteInFlight → Sent → Type 0
IsPastOrInFlight k id epoch flight m =
    IsTrue (goes_beside m.request) ⊎ IsPastOrNoQuery k m.request ⊎ IsOfWrite id epoch flight m.request

-- So is each message that was sent in the open call.
abbrev pub ArePastOrInFlight : Known → TxnId → ℕ → List WriteInFlight → Type 0
ArePastOrInFlight k id epoch flight = All (IsPastOrInFlight k id epoch flight) k.sent_now
