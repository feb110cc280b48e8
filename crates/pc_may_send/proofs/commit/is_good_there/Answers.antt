use Rattle.std.proofs.Common.{◌≡◌, true}
use Rattle.pc_may_send.proofs.commit.is_good_there.Goals as goal

pub returns-then-is_write_ts : goal.returns-then-is_write_ts
returns-then-is_write_ts c k keeps = (λ ok. (c.is_write_ts.ensures.0 c.if-is_write_ts.true, (c.is_good.ensures k keeps).0 ok), λ m. (c.is_good.ensures k keeps).1 m.1)

pub returns-else-is_write_ts : goal.returns-else-is_write_ts
returns-else-is_write_ts c k keeps = (
  λ h. absurd cc,
  λ m. let on : c.is_write_ts.result ≡ true = c.is_write_ts.ensures.1 m.0 in let off = c.if-is_write_ts.false in absurd (cc (on, off)),
)
