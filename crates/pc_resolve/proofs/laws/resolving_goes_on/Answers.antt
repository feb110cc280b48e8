use Rattle.pc_resolve.proofs.Going.{goes_on}
use Rattle.pc_resolve.proofs.laws.resolving_goes_on.Goals as goal

pub returns : goal.returns
returns c = λ start k later m knows is. goes_on start k later m knows is
