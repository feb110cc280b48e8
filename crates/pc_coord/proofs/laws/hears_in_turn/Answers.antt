use Rattle.pc_coord.proofs.InTurn.{hears_in_turn_ok}
use Rattle.pc_coord.proofs.laws.hears_in_turn.Goals as goal

pub returns : goal.returns
returns c = hears_in_turn_ok
