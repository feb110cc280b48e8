use Rattle.pc_files.proofs.uncommitted.Uncommitted.send.Goals as goal

pub returns : goal.returns
returns c sent heard m filed replies are is = c.decide.ensures sent heard m (c.in_ok-note.ensures sent heard filed replies are) is
