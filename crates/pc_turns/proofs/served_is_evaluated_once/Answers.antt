use Rattle.pc_turns.proofs.Evaluated.{served_is_evaluated_once}
use Rattle.pc_turns.proofs.served_is_evaluated_once.Goals as goal

pub returns : goal.returns
returns c = served_is_evaluated_once
