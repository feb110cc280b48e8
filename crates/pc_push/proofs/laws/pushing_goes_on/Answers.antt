use Rattle.pc_push.proofs.Going.{goes_on}
use Rattle.pc_push.proofs.laws.pushing_goes_on.Goals as goal

pub returns : goal.returns
returns c = goes_on
