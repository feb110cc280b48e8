use Rattle.pc_serial.proofs.AloneRunsPlainly.{one_session_runs_plainly}
use Rattle.pc_serial.proofs.laws.one_session_runs_plainly.Goals as goal

pub returns : goal.returns
returns c = one_session_runs_plainly
