use Rattle.pc_may_send.proofs.put.is_any_again.Goals as goal

pub returns-then-is_own_again : goal.returns-then-is_own_again
returns-then-is_own_again c = (λ ok. c.is_own_again.ensures c.if-is_own_again.true, λ m. c.if-is_own_again.true)

pub returns-else-is_own_again : goal.returns-else-is_own_again
returns-else-is_own_again c = c.is_some_again.ensures
