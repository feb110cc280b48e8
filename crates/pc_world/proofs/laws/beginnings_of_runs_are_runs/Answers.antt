use Rattle.pc_world.proofs.Prefixes.{run_front}
use Rattle.pc_world.proofs.laws.beginnings_of_runs_are_runs.Goals as goal

pub returns : goal.returns
returns c = run_front
