-- What ranges are, and what actors know, after a history.
use Rattle.std.specs.Prelude.{ℕ, List}
use Rattle.pc_base.specs.declared.actor.ActorId.{ActorId}
use Rattle.pc_base.specs.declared.actor.ActorId.TheVariants as actors
use Rattle.pc_base.specs.declared.entry.Entry.{Entry}
use Rattle.pc_base.specs.declared.transaction.TxnId.{TxnId}
use Rattle.pc_history.specs.Own.{own}
use Rattle.pc_proto.specs.declared.event.Event.{Event}
use Rattle.pc_proto.specs.Place.{Place}
use Rattle.pc_proto.specs.Table.{place_of}
use Rattle.pc_world.specs.Known.{Known, known_of}
use Rattle.pc_world.specs.Local.{Head}
use Rattle.pc_world.specs.RangeState.{RangeState}
use Rattle.pc_world.specs.Run.{protocol}
use Rattle.pc_world.specs.StateOf.{state_of}

-- The state of a range after a history.
abbrev pub state_at : Head → ℕ → List (Entry Event) → RangeState
state_at head range history = state_of (own (protocol head) (actors.Range range) history)

-- What a range has of a transaction after a history: its record, its mark, or nothing.
abbrev pub place_at : Head → ℕ → TxnId → List (Entry Event) → Place
place_at head range id history = place_of id (state_at head range history).table

-- What an actor knows after a history.
abbrev pub known_at : Head → ActorId → List (Entry Event) → Known
known_at head id history = known_of (own (protocol head) id history)
