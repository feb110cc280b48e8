-- All messages of a wave are sent before the first of them is evaluated whose reply is heard, and all such are evaluated before the first reply
-- is heard. So an evaluation whose reply is heard stands behind everything that its actor has sent, and before the hearings with which the actor's list
-- ends, which are those of the same wave: between two waves something is sent, or told and asked. Own profile.
use Rattle.std.specs.Prelude.{◌≡◌, ℕ, ◌<◌, false, Option, None, Some, List, ◌++◌, All, ⊤}
use Rattle.std.specs.Option.{option_map_or}
use Rattle.pc_follows.specs.Heartbeats.{is_heartbeat}
use Rattle.pc_history.specs.declared.pair.Pair.{Pair}
use Rattle.pc_proto.specs.declared.event.Event.{Event}
use Rattle.pc_proto.specs.declared.event.Event.TheVariants as events
use Rattle.pc_world.specs.Known.{known_of}
use Rattle.pc_world.specs.Known.Traffic.{Heard, Sent, request_sent}

-- The event sends a message.
abbrev pub IsSending : Event → Type 0
IsSending (events.Send number range request) = ⊤
IsSending _ = ⊥

-- Everything that the actor sent was sent before this step.
abbrev pub AreSentBefore : ℕ → List (Pair Event) → Type 0
AreSentBefore step own = All (λ p. IsSending p.entry.event → p.entry.step < step) own

-- The event hears a reply, and not that of a heartbeat, where these messages were sent: behind a heartbeat may come a wave of puts that were sent
-- before the call, for which nothing is sent.
abbrev pub IsHearingOfWave : List Sent → Event → Type 0
IsHearingOfWave sent (events.Hear number step) = option_map_or (λ r. is_heartbeat r) (request_sent number sent) false ≡ false
IsHearingOfWave sent _ = ⊥

-- Of the hearings with which the actor's list ends, however many of them are taken, each was made after this step.
abbrev pub AreHeardAfter : ℕ → List (Pair Event) → Type 0
AreHeardAfter step own =
    (front hearings : List (Pair Event)) → own ≡ front ++ hearings
    → All (λ p. IsHearingOfWave (known_of own).sent p.entry.event) hearings → All (λ p. step < p.entry.step) hearings

-- What was evaluated at this step may be heard next: the step stands behind the sendings of the wave, and before its hearings.
pub record IsInWave (own : List (Pair Event)) (step : ℕ) : Type 0 where
  pub sent : AreSentBefore step own
  pub heard : AreHeardAfter step own

-- A reply that is heard was evaluated so.
abbrev pub HearsWaves : List (Pair Event) → Option Heard → Type 0
HearsWaves own None = ⊤
HearsWaves own (Some h) = IsInWave own h.step
