use Rattle.pc_world.proofs.Prefixes.{run_step}
use Rattle.pc_world.proofs.laws.steps_are_places.Goals as goal

pub returns : goal.returns
returns c head history place e run at = run_step head history place e run at
