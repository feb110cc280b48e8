use Rattle.std.proofs.Common.{Some}
use Rattle.pc_history.proofs.actor.Actor.act.Given as goal

abbrev pub ghosts-act_as : goal.ghosts-act_as
ghosts-act_as g a = record { asked = Some a.event }
