use Rattle.std.proofs.Common.{Some}
use Rattle.pc_history.proofs.note.Note.again.Given as goal

abbrev pub ghosts-again_as : goal.ghosts-again_as
ghosts-again_as g a = record { asked = Some a.uses }
