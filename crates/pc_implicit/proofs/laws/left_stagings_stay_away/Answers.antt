use Rattle.pc_implicit.proofs.Runs.{left_stagings_stay_away}
use Rattle.pc_implicit.proofs.laws.left_stagings_stay_away.Goals as goal

pub returns : goal.returns
returns c = left_stagings_stay_away
