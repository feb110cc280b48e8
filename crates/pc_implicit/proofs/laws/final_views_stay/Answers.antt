use Rattle.pc_implicit.proofs.Runs.{final_views_stay}
use Rattle.pc_implicit.proofs.laws.final_views_stay.Goals as goal

pub returns : goal.returns
returns c = final_views_stay
