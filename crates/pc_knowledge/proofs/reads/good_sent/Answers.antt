use Rattle.pc_knowledge.proofs.reads.good_sent.Goals as goal

pub returns-in-Refresh : goal.returns-in-Refresh
returns-in-Refresh c k files same are = c.good_from.ensures k files same are
