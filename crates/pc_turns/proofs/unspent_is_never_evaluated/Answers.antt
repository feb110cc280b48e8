use Rattle.pc_turns.proofs.Evaluated.{unspent_is_never_evaluated}
use Rattle.pc_turns.proofs.unspent_is_never_evaluated.Goals as goal

pub returns : goal.returns
returns c = unspent_is_never_evaluated
