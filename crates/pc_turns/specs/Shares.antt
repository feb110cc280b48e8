-- How the clients' own lists stand beside the order of their entries, while they run in turns.
use Rattle.std.specs.Prelude.{◌≡◌, ℕ, ◌+◌, ◌-◌, ◌<◌, nat_le, cond, true, Some, List, length, slice_get, All, Contains}
use Rattle.pc_base.specs.declared.actor.ActorId.{ActorId}
use Rattle.pc_base.specs.declared.actor.ActorId.TheVariants as actors
use Rattle.pc_history.specs.Closed.{ids_of}
use Rattle.pc_history.specs.declared.pair.Pair.{Pair}
use Rattle.pc_history.specs.declared.view.Part.{Part}
use Rattle.pc_proto.specs.declared.event.Event.{Event}
use Rattle.pc_turns.specs.Clients.{RisesFrom, is_client, share_of}
use Rattle.pc_world.specs.Local.{Head, IsActorOf}

-- The client of a head at this index, from 0: its sessions stand first, and its recoverers behind them.
abbrev pub client_at : Head → ℕ → ActorId
client_at head index = cond (nat_le head.sessions index) (actors.Recoverer (index - head.sessions + 1)) (actors.Session (index + 1))

-- The actor is one of the head's clients.
abbrev pub IsClientOf : Head → ActorId → Type 0
IsClientOf head id = IsActorOf head id × (is_client id ≡ true)

-- These are the own lists of the head's clients, in order, and each is its client's share of the entries, whose steps rise.
pub record AreShares (head : Head) (lists : List (List (Pair Event))) (order : List (Pair Event)) : Type 0 where
  pub many : length lists ≡ head.sessions + head.recoverers
  pub rises : RisesFrom 0 order
  pub each : (index : ℕ) (list : List (Pair Event)) → slice_get lists index ≡ Some list → list ≡ share_of (client_at head index) order
  pub only : All (λ p. IsClientOf head p.entry.actor) order

-- The part is what the client of this index stored, whose own list this is.
pub record IsPartAt (head : Head) (lists : List (List (Pair Event))) (part : Part Event) : Type 0 where
  pub index : ℕ
  pub whose : part.id ≡ client_at head index
  pub stored : slice_get lists index ≡ Some part.own

-- Of these parts the clients' are those of the head's clients whose own lists these are, and each of them has one.
pub record AreHandedIn (head : Head) (lists : List (List (Pair Event))) (parts : List (Part Event)) : Type 0 where
  pub theirs : All (λ part. is_client part.id ≡ true → IsPartAt head lists part) parts
  pub all : (index : ℕ) → index < length lists → Contains (ids_of parts) (client_at head index)
