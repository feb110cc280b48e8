use Rattle.pc_runs.proofs.Whole.{history_follows}
use Rattle.pc_runs.proofs.history_follows.Goals as goal

pub returns : goal.returns
returns g c = history_follows _
