-- Messages to ranges, and what their notes tell.
use Rattle.std.specs.Prelude.{◌≡◌, ℕ, ◌+◌, ◌<◌, List, [], ◌∷◌, All}
use Rattle.pc_base.specs.declared.actor.ActorId.{ActorId}
use Rattle.pc_base.specs.declared.actor.ActorId.TheVariants as actors
use Rattle.pc_base.specs.declared.entry.Entry.{Entry}
use Rattle.pc_history.specs.declared.view.Known.{Known as KnownEntry}
use Rattle.pc_history.specs.Parts.{entry_of, known_entry}
use Rattle.pc_proto.specs.declared.event.Event.{Event}
use Rattle.pc_proto.specs.declared.event.Event.TheVariants as events
use Rattle.pc_proto.specs.declared.reply.Reply.{Reply}
use Rattle.pc_proto.specs.declared.request.Request.{Request}

-- The entry, at this step, in which the actor sent the message.
abbrev pub sending : ℕ → ActorId → ℕ → ℕ → Request → Entry Event
sending step sender number range request = entry_of step sender (events.Send number range request)

-- The entry, at this step, in which the range evaluated the actor's message of this number.
abbrev pub evaluation : ℕ → ℕ → ActorId → ℕ → Reply → Entry Event
evaluation step range sender number reply = entry_of step (actors.Range range) (events.Eval sender number reply)

-- What a note tells if it tells of the sending of this message, at the step, the place and with the uses that it has.
abbrev pub send_note : ActorId → ℕ → ℕ → Request → List (KnownEntry Event) → List (KnownEntry Event)
send_note sender number range request [] = known_entry (sending 0 sender number range request) 0 0 ∷ []
send_note sender number range request (k ∷ ks) = known_entry (sending k.entry.step sender number range request) k.place k.uses ∷ []

-- What a note tells is the sending of this message.
abbrev pub IsSendNote : ActorId → ℕ → ℕ → Request → List (KnownEntry Event) → Type 0
IsSendNote sender number range request note = note ≡ send_note sender number range request note

-- What a note tells is this evaluation, with no use.
pub record IsEvalNote (sender : ActorId) (number range step : ℕ) (reply : Reply) (note : List (KnownEntry Event)) : Type 0 where
  pub place : ℕ
  pub tells : note ≡ known_entry (evaluation step range sender number reply) place 0 ∷ []

-- The entry that a note tells of comes before this step.
abbrev pub IsToldBefore : ℕ → List (KnownEntry Event) → Type 0
IsToldBefore step [] = ⊥
IsToldBefore step (k ∷ ks) = k.entry.step < step

-- Everything that a note tells of comes before this step.
abbrev pub ComesAfter : ℕ → List (KnownEntry Event) → Type 0
ComesAfter step note = All (λ k. k.entry.step < step) note

-- What a note tells is an entry of the range, which has at least so many entries up to it.
pub record IsFullNote (range limit : ℕ) (note : List (KnownEntry Event)) : Type 0 where
  pub entry : Entry Event
  pub place : ℕ
  pub tells : note ≡ known_entry entry place 0 ∷ []
  pub whose : entry.actor ≡ actors.Range range
  pub many : limit < place + 2
