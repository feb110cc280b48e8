-- One range: what it stored, and what it does with a message.
use Rattle.std.specs.Prelude.{◌≡◌, ℕ, ◌+◌, ◌<◌, ◌≤◌, ◌^◌, ◌⊎◌, [], ◌∷◌, ◌++◌, length, All, Some, ⊤}
use Rattle.pc_base.specs.declared.actor.ActorId.{ActorId}
use Rattle.pc_base.specs.declared.actor.ActorId.TheVariants as actors
use Rattle.pc_history.specs.declared.pair.Pair.{Pair}
use Rattle.pc_history.specs.declared.view.Part.{Part}
use Rattle.pc_history.specs.Meanings.{ActorMeaning}
use Rattle.pc_history.specs.Own.{pair}
use Rattle.pc_proto.specs.declared.event.Event.{Event}
use Rattle.pc_proto.specs.declared.event.Event.TheVariants as events
use Rattle.pc_proto.specs.declared.reply.Reply.{Reply}
use Rattle.pc_proto.specs.declared.request.Request.{Request}
use Rattle.pc_history.specs.declared.named.Named.{Ghosts}
use Rattle.pc_range.specs.declared.commit_world.CommitWorld.{CommitWorld}
use Rattle.pc_range.specs.declared.message.Message.{Message}
use Rattle.pc_range.specs.declared.message.ServeFault.{ServeFault}
use Rattle.pc_range.specs.declared.message.ServeFault.TheVariants as faults
use Rattle.pc_range.specs.Message.{IsFullNote, evaluation, sending}
use Rattle.pc_world.specs.Evaluation.{reply}
use Rattle.pc_world.specs.Local.{Head}
use Rattle.pc_world.specs.RangeState.{RangeState}
use Rattle.pc_world.specs.Run.{IsKept, clock_end}
use Rattle.pc_world.specs.Stamps.{AllAtMost, all_stamps}
use Rattle.pc_world.specs.StateOf.{state_of}

-- The protocol that the range takes part in, and what its actor stored and knows.
pub record CellMeaning : Type 0 where
  pub world : Head
  pub part : Part Event

-- No message has a greater timestamp than this: a table has fewer than 2^48 entries.
abbrev pub message_end : ℕ
message_end = clock_end + 2 ^ 48

-- The actor is this range, which is there; the state is what its own entries make of it; and it leaves room for the next timestamps.
pub record IsCell (range : ℕ) (head : Head) (part : Part Event) (state : RangeState) : Type 0 where
  pub id_is : part.id ≡ actors.Range range
  pub there : range ≤ length head.splits
  pub whose : All (λ (p : Pair Event). p.entry.actor ≡ actors.Range range) part.own
  pub folded : state ≡ state_of part.own
  pub bounded : AllAtMost (message_end + length part.own) (all_stamps state)

-- The range evaluated the actor's message of this number, at this step: its own list has this one entry more, which names the sending
-- of the message, and the reply is that of evaluation on what its entries up to then make of it.
pub record StoresEvaluation (range : ℕ) (before after : CellMeaning) (sender : ActorId) (number : ℕ) (request : Request) (step : ℕ) (told : Reply) : Type 0 where
  pub sent : ℕ
  pub same_world : after.world ≡ before.world
  pub same_id : after.part.id ≡ before.part.id
  pub stored : after.part.own ≡ before.part.own ++ pair (evaluation step range sender number told) (Some (sending sent sender number range request)) ∷ []
  pub answers : told ≡ reply request (state_of before.part.own)
  pub later : sent < step

-- The range evaluated the actor's message, at some step.
pub record HasServed (range : ℕ) (before after : CellMeaning) (sender : ActorId) (number : ℕ) (request : Request) : Type 0 where
  pub step : ℕ
  pub told : Reply
  pub evaluated : StoresEvaluation range before after sender number request step told

-- The fault of a range that is full: its note tells the last of its entries, and it gives this message back.
abbrev pub IsFullFault : {N : Type 0} {G : Ghosts N CommitWorld} → ℕ → Part Event → Message N G → ServeFault N G → Type 0
IsFullFault range part msg (faults.Full at last message) = (at ≡ range) × IsFullNote range (length part.own) last.known × (message ≡ msg)
IsFullFault range part msg faults.NoMemory = ⊤

-- The fault of the range of this number: where it is full, its note tells its last entry, of at least so many, and it gives this message back.
abbrev pub IsFullAt : {N : Type 0} {G : Ghosts N CommitWorld} → ℕ → ℕ → Message N G → ServeFault N G → Type 0
IsFullAt range limit msg (faults.Full at last message) = (at ≡ range) × IsFullNote range limit last.known × (message ≡ msg)
IsFullAt range limit msg faults.NoMemory = ⊤

-- Why the range refused this message, and what that left: it is full, the note tells its last entry, and it gives the message back, with the
-- note of its sending and that note's uses; or memory was wanted, before it evaluated the message or after it stored the evaluation.
abbrev pub IsRefusal : {N : Type 0} {G : Ghosts N CommitWorld} → ℕ → ℕ → CellMeaning → CellMeaning → Message N G → ServeFault N G → Type 0
IsRefusal range limit before after msg (faults.Full at last message) =
    (at ≡ range) × (limit ≤ length before.part.own) × (after ≡ before) × IsFullNote range limit last.known × (message ≡ msg)
IsRefusal range limit before after msg faults.NoMemory =
    (after ≡ before) ⊎ (HasServed range before after msg.sender msg.number msg.request × (length before.part.own < limit))

-- What becomes of an actor that took the note of a message, and stored its evaluation: its own list has this one entry more, and the
-- message was sent early enough.
pub record IsEntered (before after : ActorMeaning Head Event) (sender : ActorId) (number range : ℕ) (request : Request) (step : ℕ) (told : Reply) : Type 0 where
  pub sent : ℕ
  pub same_world : after.world ≡ before.world
  pub same_id : after.part.id ≡ before.part.id
  pub stored : after.part.own ≡ before.part.own ++ pair (evaluation step range sender number told) (Some (sending sent sender number range request)) ∷ []
  pub kept : IsKept sent (events.Send number range request)
  pub early : sent < 2 ^ 48
  pub later : sent < step
