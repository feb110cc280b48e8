-- Which messages full ranges hold up: they are spent, and never evaluated. Own profile.
use Rattle.std.specs.Prelude.{ℕ, Bool, ◌&&◌, ◌==◌, List}
use Rattle.pc_base.specs.declared.actor.ActorId.{ActorId}
use Rattle.pc_base.specs.declared.entry.Entry.{Entry}
use Rattle.pc_closing.specs.Full.{range_is_full}
use Rattle.pc_proto.specs.declared.event.Event.{Event}
use Rattle.pc_turns.specs.Once.{evaluations_of}
use Rattle.pc_world.specs.Known.Traffic.{Sent}
use Rattle.pc_world.specs.Local.{Head}

-- The actor's message went to a range that stored at least as many entries as it may have, and the history never evaluates it.
abbrev pub holds_up : ℕ → Head → List (Entry Event) → ActorId → Sent → Bool
holds_up limit head history actor m = range_is_full limit head history m.range && evaluations_of actor m.number history == 0
