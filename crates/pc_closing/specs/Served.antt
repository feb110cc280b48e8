-- How often an actor's messages are evaluated over a quiet wire, where ranges may be full. Own profile.
use Rattle.std.specs.Prelude.{◌≡◌, ◌≤◌, ◌⊎◌, Bool, true, false, List, All, Contains}
use Rattle.pc_base.specs.declared.actor.ActorId.{ActorId}
use Rattle.pc_base.specs.declared.entry.Entry.{Entry}
use Rattle.pc_proto.specs.declared.event.Event.{Event}
use Rattle.pc_turns.specs.Once.{evaluations_of}
use Rattle.pc_world.specs.Known.{Known}
use Rattle.pc_world.specs.Known.Traffic.{Sent}
use Rattle.pc_world.specs.Tell.Refusal.{is_heard}

-- The message is held up: it, or one that the actor sent before it, was not heard, and this says that a full range holds that one up.
pub record IsHeldUp (held : Sent → Bool) (k : Known) (m : Sent) : Type 0 where
  pub front : Sent
  pub sent : Contains k.sent front
  pub no_later : front.number ≤ m.number
  pub unheard : is_heard k.heard front ≡ false
  pub is : held front ≡ true

-- The history evaluates the actor's message at most once, and just once unless it is held up.
pub record IsServedOnce (held : Sent → Bool) (actor : ActorId) (history : List (Entry Event)) (k : Known) (m : Sent) : Type 0 where
  pub most : evaluations_of actor m.number history ≤ 1
  pub once : (evaluations_of actor m.number history ≡ 1) ⊎ IsHeldUp held k m

-- Each message of the actor, which knows this, is so; and this says which of them a full range holds up.
abbrev pub AreServed : (Sent → Bool) → ActorId → List (Entry Event) → Known → Type 0
AreServed held actor history k = All (IsServedOnce held actor history k) k.sent
