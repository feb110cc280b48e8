use Rattle.pc_runs.proofs.Whole.{learns_are_kept}
use Rattle.pc_runs.proofs.learns_are_kept.Goals as goal

pub returns : goal.returns
returns g c = learns_are_kept _
