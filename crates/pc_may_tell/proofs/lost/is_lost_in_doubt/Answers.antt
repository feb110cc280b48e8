use Rattle.std.proofs.Common.{◌≡◌, true}
use Rattle.pc_may_tell.proofs.lost.is_lost_in_doubt.Goals as goal

pub returns-then-was_lost : goal.returns-then-was_lost
returns-then-was_lost c k keeps = (λ ok. ((c.was_lost.ensures k keeps).0 c.if-was_lost.true, (c.may_have_committed.ensures k keeps).0 ok), λ m. (c.may_have_committed.ensures k keeps).1 m.1)

pub returns-else-was_lost : goal.returns-else-was_lost
returns-else-was_lost c k keeps = (
  λ h. absurd cc,
  λ m. let on : c.was_lost.result ≡ true = (c.was_lost.ensures k keeps).1 m.0 in let off = c.if-was_lost.false in absurd (cc (on, off)),
)
