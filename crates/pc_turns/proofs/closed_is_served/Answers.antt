use Rattle.pc_turns.proofs.Evaluated.{closed_is_served}
use Rattle.pc_turns.proofs.closed_is_served.Goals as goal

pub returns : goal.returns
returns c = closed_is_served
