-- What an actor comes to know by its messages alone: what it sends, and what it hears.
use Rattle.std.specs.Prelude.{◌≡◌, ℕ, ◌+◌, ◌≤◌, Bool, true, false, Some, List, ◌++◌, fold, All, Any, IsTrue}
use Rattle.pc_base.specs.declared.actor.ActorId.{ActorId}
use Rattle.pc_base.specs.declared.entry.Entry.{Entry}
use Rattle.pc_history.specs.declared.pair.Pair.{Pair}
use Rattle.pc_proto.specs.declared.event.Event.{Event}
use Rattle.pc_proto.specs.declared.event.Event.TheVariants as events
use Rattle.pc_proto.specs.declared.reply.Reply.{Reply}
use Rattle.pc_proto.specs.declared.request.Request.{Request}
use Rattle.pc_proto.specs.Stamps.{request_stamps}
use Rattle.pc_world.specs.Evaluation.{reply}
use Rattle.pc_world.specs.Known.{Known, learn, next_number}
use Rattle.pc_world.specs.Known.Traffic.{Heard, request_sent}
use Rattle.pc_world.specs.MaySend.{MaySendRow}
use Rattle.pc_world.specs.StateOf.{state_of}

-- The request may be sent now: its row allows it, and none of its timestamps is past the one after the greatest that the actor
-- knows.
pub record IsAllowed (splits : List (List ℕ)) (actor : ActorId) (k : Known) (request : Request) : Type 0 where
  pub row : MaySendRow splits actor k request
  pub stamps : All (λ ts. ts ≤ k.top + 1) (request_stamps request)

-- The event sends a message, or hears a reply.
abbrev pub is_message : Event → Bool
is_message (events.Send number range request) = true
is_message (events.Hear number step) = true
is_message _ = false

-- What the actor knows after these entries more.
abbrev pub known_from : Known → List (Pair Event) → Known
known_from k entries = fold (λ k p. learn p k) k entries

-- Since it knew this, the actor has sent and heard, and done nothing else.
pub record IsLater (since now : Known) : Type 0 where
  pub entries : List (Pair Event)
  pub messages : All (λ p. IsTrue (is_message p.entry.event)) entries
  pub knows : now ≡ known_from since entries

-- What was heard is this reply to this request.
pub record IsExchange (request : Request) (reply : Reply) (h : Heard) : Type 0 where
  pub asked : h.request ≡ request
  pub told : h.reply ≡ reply

-- Since then the actor has heard this reply to this request.
pub record HeardSince (since now : Known) (request : Request) (reply : Reply) : Type 0 where
  pub more : List Heard
  pub ever : now.heard ≡ since.heard ++ more
  pub in_call : now.heard_now ≡ since.heard_now ++ more
  pub there : Any (IsExchange request reply) more

-- With this entry the actor hears the reply to a message that it sent since, which was this request.
pub record HearsReply (since before : Known) (p : Pair Event) (request : Request) (reply : Reply) : Type 0 where
  pub number : ℕ
  pub step : ℕ
  pub event : p.entry.event ≡ events.Hear number step
  pub sent_since : next_number since ≤ number
  pub said : request_sent number before.sent ≡ Some request
  pub evaluation : Entry Event
  pub sender : ActorId
  pub asked : ℕ
  pub named : p.named ≡ Some evaluation
  pub told : evaluation.event ≡ events.Eval sender asked reply

-- Since then the actor sent this request, and has just heard this reply to it; besides it has only sent and heard.
pub record WasAnswered (since now : Known) (request : Request) (reply : Reply) : Type 0 where
  pub before : Known
  pub later : IsLater since before
  pub hearing : Pair Event
  pub hears : HearsReply since before hearing request reply
  pub knows : now ≡ learn hearing before

-- Evaluations can make a state in which this is the reply to the request.
pub record IsPossibleReply (request : Request) (told : Reply) : Type 0 where
  pub own : List (Pair Event)
  pub is : told ≡ reply request (state_of own)
