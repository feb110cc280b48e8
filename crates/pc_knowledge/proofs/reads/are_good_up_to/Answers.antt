use Rattle.pc_knowledge.proofs.reads.are_good_up_to.Goals as goal

pub returns-then-is_known_good : goal.returns-then-is_known_good
returns-then-is_known_good c k keeps opened = (λ ok. c.is_known_good.ensures k c.args.t.now keeps opened c.if-is_known_good.true, λ m. c.if-is_known_good.true)

pub returns-else-is_known_good : goal.returns-else-is_known_good
returns-else-is_known_good c k keeps opened = c.are_own_good.ensures k keeps
