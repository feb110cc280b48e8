use Rattle.pc_coord.proofs.Beside.{coordinating_goes_on_ok}
use Rattle.pc_coord.proofs.laws.coordinating_goes_on.Goals as goal

pub returns : goal.returns
returns c = coordinating_goes_on_ok
