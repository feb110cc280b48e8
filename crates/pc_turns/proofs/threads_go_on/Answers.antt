use Rattle.pc_turns.proofs.Moves.{threads_go_on}
use Rattle.pc_turns.proofs.threads_go_on.Goals as goal

pub returns : goal.returns
returns c = threads_go_on
