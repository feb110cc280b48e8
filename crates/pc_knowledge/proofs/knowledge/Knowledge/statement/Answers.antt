use Rattle.pc_knowledge.proofs.knowledge.Knowledge.statement.Goals as goal

pub returns : goal.returns
returns c k keeps = c.statement.ensures k keeps.calls
