-- Which ranges are full at the end of a history.
use Rattle.std.specs.Prelude.{ℕ, Bool, nat_le, List, length}
use Rattle.pc_base.specs.declared.actor.ActorId.TheVariants as actors
use Rattle.pc_base.specs.declared.entry.Entry.{Entry}
use Rattle.pc_history.specs.Own.{own}
use Rattle.pc_proto.specs.declared.event.Event.{Event}
use Rattle.pc_world.specs.Local.{Head}
use Rattle.pc_world.specs.Run.{protocol}

-- The range stored at least as many entries as it may have.
abbrev pub range_is_full : ℕ → Head → List (Entry Event) → ℕ → Bool
range_is_full limit head history range = nat_le limit (length (own (protocol head) (actors.Range range) history))
