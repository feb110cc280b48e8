use Rattle.pc_program.proofs.Accepted.{outputs_are_accepted}
use Rattle.pc_program.proofs.laws.outputs_are_accepted.Goals as goal

pub returns : goal.returns
returns c = outputs_are_accepted
