use Rattle.pc_may_send.proofs.stage.is_good_at.Goals as goal

pub returns : goal.returns
returns c k keeps = rw (← c.stage.view_is) (c.is_good.ensures k keeps)
