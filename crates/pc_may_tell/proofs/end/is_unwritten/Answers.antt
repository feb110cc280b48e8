use Rattle.std.proofs.Common.{◌≡◌, true}
use Rattle.pc_may_tell.proofs.end.is_unwritten.Goals as goal

pub returns-then-is_without_put : goal.returns-then-is_without_put
returns-then-is_without_put c k keeps = (λ ok. (c.is_without_put.ensures.0 c.if-is_without_put.true, (c.is_good.ensures k keeps).0 ok), λ m. (c.is_good.ensures k keeps).1 m.1)

pub returns-else-is_without_put : goal.returns-else-is_without_put
returns-else-is_without_put c k keeps = (
  λ h. absurd cc,
  λ m. let on : c.is_without_put.result ≡ true = c.is_without_put.ensures.1 m.0 in let off = c.if-is_without_put.false in absurd (cc (on, off)),
)
