use Rattle.pc_may_send.proofs.commit.may_commit_by.Goals as goal

pub returns : goal.returns
returns c k keeps mine = rw (← c.commit.view_is) (c.may_commit_at.ensures k keeps mine)
