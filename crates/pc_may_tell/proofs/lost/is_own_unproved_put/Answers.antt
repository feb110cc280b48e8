use Rattle.pc_known.proofs.Exact.{both}
use Rattle.pc_may_tell.proofs.Losses.{unproved_put}
use Rattle.pc_may_tell.proofs.lost.is_own_unproved_put.Goals as goal

pub returns : goal.returns
returns c k keeps = rw (← c.message.view_is) (both (c.is_own_unproved.ensures k keeps) (unproved_put k _))
