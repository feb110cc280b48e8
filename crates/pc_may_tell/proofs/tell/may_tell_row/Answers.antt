use Rattle.pc_may_tell.proofs.tell.may_tell_row.Goals as goal

pub returns-in-Rows : goal.returns-in-Rows
returns-in-Rows c k keeps = rw c.in-Rows.is (c.may_tell_rows.ensures k keeps)

pub returns-in_default : goal.returns-in_default
returns-in_default c k keeps = c.may_tell_row_of.ensures c.args.splits.now k keeps
