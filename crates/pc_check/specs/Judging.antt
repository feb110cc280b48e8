-- What a judge of local entries is told, one entry after the other. Own profile.
use Rattle.std.specs.Prelude.{List}
use Rattle.pc_base.specs.declared.actor.ActorId.{ActorId}
use Rattle.pc_base.specs.declared.entry.Entry.{Entry}
use Rattle.pc_history.specs.Own.{named_in, own}
use Rattle.pc_proto.specs.declared.event.Event.{Event}
use Rattle.pc_world.specs.Caused.{IsCaused}
use Rattle.pc_world.specs.Known.{Known}
use Rattle.pc_world.specs.Local.{Head, IsActorOf, IsLocal, MayDo}
use Rattle.pc_world.specs.Run.{IsRun, protocol}

-- The entries before are a run of which the judge keeps what it needs, the head has the next entry's actor, and the entry is
-- caused.
pub record IsNextFor {J : Type 0} (keeps : Head → List (Entry Event) → J → Type 0) (judge : J) (before : List (Entry Event)) (e : Entry Event) : Type 0 where
  pub head : Head
  pub kept : keeps head before judge
  pub run : IsRun head before
  pub there : IsActorOf head e.actor
  pub caused : IsCaused before e.event e.actor

-- The event may come next in its actor's own list.
abbrev pub MayComeAfter : Head → List (Entry Event) → Entry Event → Type 0
MayComeAfter head before e = IsLocal head e.actor (own (protocol head) e.actor before) e.event (named_in (protocol head) before e.event)

-- What is kept is what some actor knows that may make the event.
pub record CanDo {C : Type 0} (keeps : Head → ActorId → Known → C → Type 0) (client : C) (event : Event) : Type 0 where
  pub head : Head
  pub actor : ActorId
  pub known : Known
  pub kept : keeps head actor known client
  pub may : MayDo head actor known event
