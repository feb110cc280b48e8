use Rattle.pc_implicit.proofs.CommitsStay.{commits_stay}
use Rattle.pc_implicit.proofs.staging.commits_stay.Goals as goal

pub returns : goal.returns
returns c = commits_stay
