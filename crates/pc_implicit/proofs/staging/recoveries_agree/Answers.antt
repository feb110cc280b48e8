use Rattle.pc_implicit.proofs.Recovered.{recoveries_agree}
use Rattle.pc_implicit.proofs.staging.recoveries_agree.Goals as goal

pub returns : goal.returns
returns c = recoveries_agree
