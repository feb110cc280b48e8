use Rattle.pc_implicit.proofs.PastWrites.{written_stays}
use Rattle.pc_implicit.proofs.staging.written_stays.Goals as goal

pub returns : goal.returns
returns c = written_stays
