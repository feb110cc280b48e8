use Rattle.std.proofs.Common.{◌≡◌, true}
use Rattle.pc_may_send.proofs.commit.is_in_commit.Goals as goal

pub returns-then-is_open : goal.returns-then-is_open
returns-then-is_open c k keeps = (λ ok. ((c.is_open.ensures k keeps).0 c.if-is_open.true, (c.is_commit.ensures k keeps).0 ok), λ m. (c.is_commit.ensures k keeps).1 m.1)

pub returns-else-is_open : goal.returns-else-is_open
returns-else-is_open c k keeps = (
  λ h. absurd cc,
  λ m. let on : c.is_open.result ≡ true = (c.is_open.ensures k keeps).1 m.0 in let off = c.if-is_open.false in absurd (cc (on, off)),
)
