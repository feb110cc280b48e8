use Rattle.pc_world.proofs.Kept.{run_below_greatest}
use Rattle.pc_world.proofs.laws.every_timestamp_is_below_the_greatest.Goals as goal

pub returns : goal.returns
returns c = run_below_greatest
