use Rattle.pc_serial.proofs.OneSession.{one_session_runs_in_turn}
use Rattle.pc_serial.proofs.laws.one_session_runs_in_turn.Goals as goal

pub returns : goal.returns
returns c = one_session_runs_in_turn
