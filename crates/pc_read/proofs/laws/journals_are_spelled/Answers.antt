use Rattle.pc_read.proofs.Spelled.{journals_are_spelled}
use Rattle.pc_read.proofs.laws.journals_are_spelled.Goals as goal

pub returns : goal.returns
returns c = journals_are_spelled
