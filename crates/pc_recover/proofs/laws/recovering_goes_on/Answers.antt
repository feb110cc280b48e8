use Rattle.pc_recover.proofs.Going.{goes_on}
use Rattle.pc_recover.proofs.laws.recovering_goes_on.Goals as goal

pub returns : goal.returns
returns c = goes_on
