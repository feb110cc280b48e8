use Rattle.pc_implicit.proofs.Ended.{given_up_is_uncommitted}
use Rattle.pc_implicit.proofs.ends.given_up_is_uncommitted.Goals as goal

pub returns : goal.returns
returns c = given_up_is_uncommitted
