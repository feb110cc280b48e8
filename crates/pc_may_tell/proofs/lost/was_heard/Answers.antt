use Rattle.pc_may_tell.proofs.lost.was_heard.Goals as goal

pub returns : goal.returns
returns c k keeps = rw (← c.message.view_is) (c.was_heard.ensures k keeps)
