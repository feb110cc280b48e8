use Rattle.pc_implicit.proofs.Runs.{decisions_stand}
use Rattle.pc_implicit.proofs.laws.decisions_stand.Goals as goal

pub returns : goal.returns
returns c = decisions_stand
