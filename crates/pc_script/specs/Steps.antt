-- What each entry of a session's own list keeps of its script and its clock; what it keeps beside them stands in `pc_desk`. Own profile.
use Rattle.std.specs.Prelude.{ℕ, Bool, List}
use Rattle.pc_history.specs.declared.pair.Pair.{Pair}
use Rattle.pc_proto.specs.declared.event.Event.{Event}
use Rattle.pc_script.specs.Clocks.{ReadsClock, asks_in, clock_rule}
use Rattle.pc_script.specs.Script.{AsksNext, Position, script_position}
use Rattle.pc_work.specs.declared.session.SessionWork.{SessionWork}
use Rattle.pc_work.specs.declared.workload.Workload.{Workload}

-- What a session's next event keeps, after so many reads of its clock, at this place of its script.
pub record KeepsStep (rule : ℕ → ℕ → Bool) (asks : ℕ) (at : Position) (event : Event) : Type 0 where
  pub clock : ReadsClock rule asks event
  pub script : AsksNext at event

-- The session's next entry keeps its workload.
abbrev pub KeepsWork : Workload → SessionWork → (ℕ → ℕ → Bool) → List (Pair Event) → Pair Event → Type 0
KeepsWork work session rule before p =
    KeepsStep (clock_rule session.clock rule) (asks_in before) (script_position work.reruns session.script before) p.entry.event
