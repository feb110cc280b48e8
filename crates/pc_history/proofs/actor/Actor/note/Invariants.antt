use Rattle.std.proofs.Common.{Some}
use Rattle.pc_history.proofs.actor.Actor.note.Given as goal

abbrev pub ghosts-note_as : goal.ghosts-note_as
ghosts-note_as g a = record { asked = Some a.asked }
