-- What a session does when it moves. Own profile.
use Rattle.std.specs.Prelude.{⊤}
use Rattle.pc_in_turns.specs.declared.task.Task.{Task}
use Rattle.pc_in_turns.specs.declared.task.Task.TheVariants as tasks
use Rattle.pc_scripted.specs.Scripted.{ScriptedMeaning}
use Rattle.pc_scripted.specs.Taking.{AsksInTurn, FinishesInTurn, GoesUntil, IsRunOut, Move, are_items_over, is_script_over}

-- What the session makes of its task: it opens its script, asks a call, does a job, or goes to its script's end.
abbrev pub DoesTask : {C : Type 0} → Task → ScriptedMeaning C → Move
DoesTask (tasks.Open items) s = GoesUntil s (are_items_over items s.at.reruns s.script)
DoesTask tasks.Call s = AsksInTurn s
DoesTask tasks.Job s = FinishesInTurn s
DoesTask tasks.Rest s = GoesUntil s (is_script_over s.at.reruns s.script)

-- Where its task goes to the end of its script, the session has run out.
abbrev pub EndsWithTask : {C : Type 0} → Task → ScriptedMeaning C → Type 0
EndsWithTask tasks.Rest s = IsRunOut s
EndsWithTask (tasks.Open items) s = ⊤
EndsWithTask tasks.Call s = ⊤
EndsWithTask tasks.Job s = ⊤
