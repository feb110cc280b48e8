use Rattle.pc_implicit.proofs.RisingVersions.{versions_rise}
use Rattle.pc_implicit.proofs.reads.versions_rise.Goals as goal

pub returns : goal.returns
returns c = versions_rise
