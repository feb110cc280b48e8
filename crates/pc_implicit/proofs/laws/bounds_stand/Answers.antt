use Rattle.pc_implicit.proofs.Runs.{bounds_stand}
use Rattle.pc_implicit.proofs.laws.bounds_stand.Goals as goal

pub returns : goal.returns
returns c = bounds_stand
