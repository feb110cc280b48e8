use Rattle.pc_world.proofs.Kept.{run_kept}
use Rattle.pc_world.proofs.laws.runs_are_kept.Goals as goal

pub returns : goal.returns
returns c = run_kept
