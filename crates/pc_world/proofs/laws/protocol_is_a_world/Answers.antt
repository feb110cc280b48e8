use Rattle.pc_world.proofs.World.{is_world}
use Rattle.pc_world.proofs.laws.protocol_is_a_world.Goals as goal

pub returns : goal.returns
returns c = is_world
