use Rattle.pc_runs.proofs.Finished.{clients_leave}
use Rattle.pc_runs.proofs.clients_leave.Goals as goal

pub returns : goal.returns
returns g c = clients_leave g.C.Clock.rule
