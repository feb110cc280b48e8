use Rattle.pc_serial.proofs.Quiet.{one_quiet_session}
use Rattle.pc_serial.proofs.laws.one_quiet_session.Goals as goal

pub returns : goal.returns
returns c = one_quiet_session
