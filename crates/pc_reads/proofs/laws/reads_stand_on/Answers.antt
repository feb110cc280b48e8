use Rattle.pc_reads.proofs.Goods.{stand_on}
use Rattle.pc_reads.proofs.laws.reads_stand_on.Goals as goal

pub returns : goal.returns
returns c = stand_on
