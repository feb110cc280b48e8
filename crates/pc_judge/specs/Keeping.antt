-- What is kept of each actor of a journal stands for its state, or for what it knows. Own profile.
use Rattle.std.specs.Prelude.{◌≡◌, ℕ, List, Option, None, Some}
use Rattle.std.specs.BTreeMap.{get}
use Rattle.std.specs.Ordering.{nat_cmp}
use Rattle.pc_base.specs.declared.actor.ActorId.{ActorId}
use Rattle.pc_base.specs.declared.actor.ActorId.TheVariants as actors
use Rattle.pc_base.specs.declared.entry.Entry.{Entry}
use Rattle.pc_check.specs.FirstBroken.{head_with}
use Rattle.pc_judge.specs.declared.actors.Actors.{Actors}
use Rattle.pc_proto.specs.declared.event.Event.{Event}
use Rattle.pc_report.specs.Replaying.{AreStates}
use Rattle.pc_world.specs.After.{known_at}
use Rattle.pc_world.specs.Known.{Known, nothing_known}
use Rattle.pc_world.specs.Local.{Head}

-- What is kept of a session or recoverer, if anything is, stands for what it knows; one of which nothing is kept knows nothing.
abbrev pub KeepsClient : {C : Type 0} → (Head → ActorId → Known → C → Type 0) → Head → ActorId → Known → Option C → Type 0
KeepsClient keeps head actor k None = k ≡ nothing_known
KeepsClient keeps head actor k (Some client) = keeps head actor k client

-- It stands for what some actor of this name knows, over ranges with these splits.
pub record IsKeptOf {C : Type 0} (keeps : Head → ActorId → Known → C → Type 0) (splits : List (List ℕ)) (actor : ActorId) (client : Option C) : Type 0 where
  pub head : Head
  pub known : Known
  pub cut : head.splits ≡ splits
  pub kept : KeepsClient keeps head actor known client

-- The head is the one that is kept, and after these entries so are the ranges' states, and what each session and recoverer knows.
pub record KeepsActors {C : Type 0} (keeps : Head → ActorId → Known → C → Type 0) (head : Head) (before : List (Entry Event)) (a : Actors C) : Type 0 where
  pub same : head ≡ head_with a.splits.now a.sessions a.recoverers
  pub ranges : AreStates head.splits before a.ranges.items
  pub sessions : (number : ℕ) → KeepsClient keeps head (actors.Session number) (known_at head (actors.Session number) before) (get nat_cmp a.session_clients number)
  pub recoverers : (number : ℕ) → KeepsClient keeps head (actors.Recoverer number) (known_at head (actors.Recoverer number) before) (get nat_cmp a.recoverer_clients number)
