use Rattle.pc_runs.proofs.Whole.{turns_are_as_stated}
use Rattle.pc_runs.proofs.turns_are_as_stated.Goals as goal

pub returns : goal.returns
returns g c = turns_are_as_stated _
