use Rattle.pc_knowledge.proofs.reads.is_good_by.Goals as goal

pub returns-then-is_refreshed : goal.returns-then-is_refreshed
returns-then-is_refreshed c k keeps = (λ ok. c.is_refreshed.ensures k (c.files.ensures k keeps) c.if-is_refreshed.true, λ m. c.if-is_refreshed.true)

pub returns-else-is_refreshed : goal.returns-else-is_refreshed
returns-else-is_refreshed c k keeps = c.is_good_at_all.ensures k keeps
