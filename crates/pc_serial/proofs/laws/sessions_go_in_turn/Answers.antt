use Rattle.pc_serial.proofs.InTurn.{sessions_go_in_turn}
use Rattle.pc_serial.proofs.laws.sessions_go_in_turn.Goals as goal

pub returns : goal.returns
returns c = sessions_go_in_turn
