use Rattle.pc_known.proofs.calls.Calls.may_tell_row.Goals as goal

pub returns-in-Learnt : goal.returns-in-Learnt
returns-in-Learnt c splits k keeps = rw c.in-Learnt.is (c.is_learn_told.ensures k keeps)

pub returns-in-NotYet : goal.returns-in-NotYet
returns-in-NotYet c splits k keeps = rw c.in-NotYet.is (c.is_learn_told-in-NotYet.ensures k keeps)
