use Rattle.pc_may_tell.proofs.tell.may_tell_row_of.Goals as goal

pub returns-in-Begun : goal.returns-in-Begun
returns-in-Begun c splits k keeps = c.may_tell_row.ensures splits k (c.calls.ensures k keeps)
