use Rattle.std.proofs.Common.{◌≡◌, true}
use Rattle.pc_may_send.proofs.refresh.is_refresh_of.Goals as goal

pub returns-then-is_between : goal.returns-then-is_between
returns-then-is_between c k keeps opened = (λ ok. (c.is_between.ensures.0 c.if-is_between.true, (c.is_of_reads.ensures k keeps opened).0 ok), λ m. (c.is_of_reads.ensures k keeps opened).1 m.1)

pub returns-else-is_between : goal.returns-else-is_between
returns-else-is_between c k keeps opened = (
  λ h. absurd cc,
  λ m. let on : c.is_between.result ≡ true = c.is_between.ensures.1 m.0 in let off = c.if-is_between.false in absurd (cc (on, off)),
)
