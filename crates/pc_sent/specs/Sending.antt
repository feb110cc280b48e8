-- Which entry sent a message, and what an index of them says. Own profile (messages have numbers).
use Rattle.std.specs.Prelude.{◌≡◌, ℕ, ◌<◌, Bool, ◌&&◌, ◌==◌, Option, List, IfSome, find, length, slice_get}
use Rattle.std.specs.HashMap.{get}
use Rattle.std.specs.Option.{option_and_then}
use Rattle.pc_base.specs.declared.actor.ActorId.{ActorId}
use Rattle.pc_base.specs.declared.entry.Entry.{Entry}
use Rattle.pc_history.specs.Own.{same_id}
use Rattle.pc_proto.specs.declared.event.Event.{Event}
use Rattle.pc_sent.specs.declared.sent.MessageName.{MessageName}
use Rattle.pc_sent.specs.declared.sent.Sent.{Sent}
use Rattle.pc_sent.specs.Naming.{message_name}
use Rattle.pc_world.specs.Named.{is_send_of}

-- The entry sends the actor's message of this number.
abbrev pub sends_message : ActorId → ℕ → Entry Event → Bool
sends_message actor number e = same_id actor e.actor && is_send_of number e.event

-- Two names are one.
abbrev pub same_name : MessageName → MessageName → Bool
same_name one other = one.kind == other.kind && (one.actor == other.actor && one.number == other.number)

-- The place that the index has for a message.
abbrev pub sent_place : Sent → ActorId → ℕ → Option ℕ
sent_place s actor number = get same_name s.places (message_name actor number)

-- Of each message the index has the place of the first entry that sends it, if one does.
pub record AreSendsOf (history : List (Entry Event)) (s : Sent) : Type 0 where
  pub there : (actor : ActorId) (number : ℕ) → option_and_then (slice_get history) (sent_place s actor number) ≡ find (sends_message actor number) history
  pub within : (actor : ActorId) (number : ℕ) → IfSome (sent_place s actor number) (λ place. place < length history)
