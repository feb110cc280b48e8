use Rattle.pc_read.proofs.Again.{journals_are_read}
use Rattle.pc_read.proofs.laws.journals_are_read.Goals as goal

pub returns : goal.returns
returns c = journals_are_read
