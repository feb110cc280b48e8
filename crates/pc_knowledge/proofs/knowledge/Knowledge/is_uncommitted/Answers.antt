use Rattle.pc_knowledge.proofs.knowledge.Knowledge.is_uncommitted.Goals as goal

pub returns : goal.returns
returns c k keeps = c.is_uncommitted.ensures k keeps.files
