use Rattle.pc_implicit.proofs.Runs.{nothing_falls}
use Rattle.pc_implicit.proofs.laws.nothing_falls.Goals as goal

pub returns : goal.returns
returns c = nothing_falls
