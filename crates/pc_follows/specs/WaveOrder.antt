-- Nothing is sent while a wave is half heard, puts in flight aside; and of the puts for which a call waits all that went out are heard, or none.
-- Own profile.
use Rattle.std.specs.Prelude.{◌≡◌, Bool, false, ◌⊎◌, List, ◌∷◌, ◌++◌, All, IsTrue, ⊤}
use Rattle.std.specs.Option.{option_map_or}
use Rattle.pc_follows.specs.Proving.{IsAwaitedPut}
use Rattle.pc_history.specs.declared.pair.Pair.{Pair}
use Rattle.pc_proto.specs.declared.event.Event.{Event}
use Rattle.pc_proto.specs.declared.event.Event.TheVariants as events
use Rattle.pc_proto.specs.Requests.{is_put}
use Rattle.pc_world.specs.Known.{Known, known_of}
use Rattle.pc_world.specs.Known.Traffic.{Heard, Sent, request_sent}
use Rattle.pc_world.specs.Tell.Refusal.{is_heard}

-- The event hears a reply.
abbrev pub IsHearing : Event → Type 0
IsHearing (events.Hear number step) = ⊤
IsHearing _ = ⊥

-- The message was heard, or it is a put, which may be in flight.
abbrev pub IsHeardOrPut : List Heard → Sent → Type 0
IsHeardOrPut heard m = IsTrue (is_heard heard m) ⊎ IsTrue (is_put m.request)

-- Whatever was sent before some reply was heard was heard, or is a put in flight, before more is sent.
abbrev pub EndsWaves : List (Pair Event) → Type 0
EndsWaves own =
    (front back : List (Pair Event)) (p : Pair Event) → own ≡ front ++ (p ∷ back) → IsHearing p.entry.event
    → All (IsHeardOrPut (known_of own).heard) (known_of front).sent

-- The event hears the reply to a put, where these messages were sent.
abbrev pub hears_put : List Sent → Event → Bool
hears_put sent (events.Hear number step) = option_map_or (λ r. is_put r) (request_sent number sent) false
hears_put sent _ = false

-- The event asks no call.
abbrev pub IsNoAsk : Event → Type 0
IsNoAsk (events.Ask call reading) = ⊥
IsNoAsk _ = ⊤

-- Each of these messages that puts a write for which the open call waits was heard.
abbrev pub AreAwaitedHeard : Known → List Sent → Type 0
AreAwaitedHeard k sent = All (λ m. IsAwaitedPut k m.request → IsTrue (is_heard k.heard m)) sent

-- Once the reply to some put was heard in the open call, each put for which the call waits, and that went out before, was heard.
abbrev pub EndsPutWaves : List (Pair Event) → Type 0
EndsPutWaves own =
    (front back : List (Pair Event)) (p : Pair Event) → own ≡ front ++ (p ∷ back) → IsTrue (hears_put (known_of own).sent p.entry.event)
    → All (λ q. IsNoAsk q.entry.event) back → AreAwaitedHeard (known_of own) (known_of front).sent

-- Nothing is sent while a wave is half heard, and a call is told its answer only once the puts of a wave were heard.
abbrev pub SendsInWave : List (Pair Event) → Event → Type 0
SendsInWave own (events.Send number range request) = EndsWaves own × EndsPutWaves own
SendsInWave own (events.Tell answer) = EndsPutWaves own
SendsInWave own _ = ⊤
