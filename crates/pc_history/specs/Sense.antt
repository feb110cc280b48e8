-- What a world says of its events.
use Rattle.std.specs.Prelude.{ℕ, Bool, List, Option}
use Rattle.pc_base.specs.declared.ActorId.{ActorId}
use Rattle.pc_base.specs.declared.Entry.{Entry}
use Rattle.pc_history.specs.declared.pair.Pair.{Pair}

-- What an event names, when it may come, what it uses up, and what is so of it.
pub record Sense (E : Type 0) : Type 1 where
  -- The event names the entry.
  pub names : E → Entry E → Bool
  -- The event may come next in the list of this actor, whose own entries these are, where it names this entry.
  pub local : ActorId → List (Pair E) → E → Option (Entry E) → Type 0
  -- These entries, in any order, let the actor make the event.
  pub caused : List (Entry E) → E → ActorId → Type 0
  -- The event uses up a use of the entry that it names.
  pub spends : E → Bool
  -- What is so of one entry, by its step and its event.
  pub kept : ℕ → E → Type 0
