use Rattle.pc_implicit.proofs.Reading.{refreshes_stand}
use Rattle.pc_implicit.proofs.reads.refreshes_stand.Goals as goal

pub returns : goal.returns
returns c = refreshes_stand
