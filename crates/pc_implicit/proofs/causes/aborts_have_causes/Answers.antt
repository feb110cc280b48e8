use Rattle.pc_implicit.proofs.AbortCauses.{aborts_have_causes}
use Rattle.pc_implicit.proofs.causes.aborts_have_causes.Goals as goal

pub returns : goal.returns
returns c = aborts_have_causes
