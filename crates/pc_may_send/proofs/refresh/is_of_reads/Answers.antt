use Rattle.std.proofs.Common.{◌≡◌, true}
use Rattle.pc_may_send.proofs.refresh.is_of_reads.Goals as goal

pub returns-then-holds_own : goal.returns-then-holds_own
returns-then-holds_own c k keeps opened = (λ ok. (c.holds_own.ensures.0 c.if-holds_own.true, (c.are_good_up_to.ensures k keeps opened).0 ok), λ m. (c.are_good_up_to.ensures k keeps opened).1 m.1)

pub returns-else-holds_own : goal.returns-else-holds_own
returns-else-holds_own c k keeps opened = (
  λ h. absurd cc,
  λ m. let on : c.holds_own.result ≡ true = c.holds_own.ensures.1 m.0 in let off = c.if-holds_own.false in absurd (cc (on, off)),
)
