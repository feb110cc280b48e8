use Rattle.pc_implicit.proofs.Runs.{views_stay_true}
use Rattle.pc_implicit.proofs.laws.views_stay_true.Goals as goal

pub returns : goal.returns
returns c = views_stay_true
