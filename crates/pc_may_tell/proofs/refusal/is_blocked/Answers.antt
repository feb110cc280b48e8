use Rattle.std.proofs.Common.{◌≡◌, true}
use Rattle.pc_may_tell.proofs.refusal.is_blocked.Goals as goal

pub returns-then-may_be_blocked : goal.returns-then-may_be_blocked
returns-then-may_be_blocked c = (λ ok. ((c.may_be_blocked.ensures).0 c.if-may_be_blocked.true, (c.is_unyielding.ensures).0 ok), λ m. (c.is_unyielding.ensures).1 m.1)

pub returns-else-may_be_blocked : goal.returns-else-may_be_blocked
returns-else-may_be_blocked c = (
  λ h. absurd cc,
  λ m. let on : c.may_be_blocked.result ≡ true = (c.may_be_blocked.ensures).1 m.0 in let off = c.if-may_be_blocked.false in absurd (cc (on, off)),
)
