use Rattle.pc_implicit.proofs.Reading.{reads_stand}
use Rattle.pc_implicit.proofs.reads.reads_stand.Goals as goal

pub returns : goal.returns
returns c = reads_stand
