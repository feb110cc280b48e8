-- Which puts wait in their session's outbox: a write that is told written before its put is answered leaves that message there. It is delivered in the
-- first later call that waits for the write and comes as far. Own profile.
use Rattle.std.specs.Prelude.{◌≡◌, false, ◌⊎◌, List, [], ◌∷◌, ◌++◌, All, Any, Contains, IsTrue, ⊤}
use Rattle.pc_follows.specs.AgainInOneWave.{goes_alone}
use Rattle.pc_follows.specs.Proving.{IsAwaitedPut}
use Rattle.pc_history.specs.declared.pair.Pair.{Pair}
use Rattle.pc_proto.specs.declared.answer.Answer.TheVariants as answers
use Rattle.pc_proto.specs.declared.event.Event.{Event}
use Rattle.pc_proto.specs.declared.event.Event.TheVariants as events
use Rattle.pc_proto.specs.declared.request.Request.{Request}
use Rattle.pc_proto.specs.Requests.{is_stage}
use Rattle.pc_world.specs.Known.{Known, known_of}
use Rattle.pc_world.specs.Known.Traffic.{Sent}
use Rattle.pc_world.specs.Tell.Refusal.{is_heard}

-- The call has come as far as the wave of the puts for which it waits: it staged, or each message of it that goes out by itself before such a wave was
-- heard.
abbrev pub HasReachedPuts : Known → Type 0
HasReachedPuts k =
    Any (λ m. IsTrue (is_stage m.request)) k.sent_now
    ⊎ All (λ m. IsTrue (goes_alone m.request) → IsTrue (is_heard k.heard m)) k.sent_now

-- The open call delivers this put where it waits in the outbox: the call waits for the write, and has come as far.
pub record DeliversPut (k : Known) (request : Request) : Type 0 where
  pub awaited : IsAwaitedPut k request
  pub reached : HasReachedPuts k

-- The event tells an answer.
abbrev pub IsTelling : Event → Type 0
IsTelling (events.Tell answer) = ⊤
IsTelling _ = ⊥

-- No call that ends in the second of these lists, behind the first, delivers this put.
abbrev pub AreAllWithout : List (Pair Event) → List (Pair Event) → Request → Type 0
AreAllWithout front behind request =
    (before : List (Pair Event)) (p : Pair Event) (after : List (Pair Event)) → behind ≡ before ++ p ∷ after
    → IsTelling p.entry.event → DeliversPut (known_of (front ++ before)) request → ⊥

-- The message has waited in the outbox until the last call was asked: the call that sent it was told written before it was answered, and no call since
-- then has delivered it.
pub record HasWaitedInOutbox (own : List (Pair Event)) (m : Sent) : Type 0 where
  pub front : List (Pair Event)
  pub told : Pair Event
  pub behind : List (Pair Event)
  pub whole : own ≡ front ++ told ∷ behind
  pub written : told.entry.event ≡ events.Tell answers.Written
  pub sent : Contains (known_of front).sent_now m
  pub unheard : is_heard (known_of front).heard m ≡ false
  pub without : AreAllWithout (front ++ told ∷ []) behind m.request
