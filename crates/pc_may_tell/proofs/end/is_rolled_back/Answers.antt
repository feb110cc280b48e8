use Rattle.std.proofs.Common.{◌≡◌, true}
use Rattle.pc_may_tell.proofs.end.is_rolled_back.Goals as goal

pub returns-then-is_rollback_of : goal.returns-then-is_rollback_of
returns-then-is_rollback_of c = (λ ok. ((c.is_rollback_of.ensures).0 c.if-is_rollback_of.true, (c.is_cause_told.ensures).0 ok), λ m. (c.is_cause_told.ensures).1 m.1)

pub returns-else-is_rollback_of : goal.returns-else-is_rollback_of
returns-else-is_rollback_of c = (
  λ h. absurd cc,
  λ m. let on : c.is_rollback_of.result ≡ true = (c.is_rollback_of.ensures).1 m.0 in let off = c.if-is_rollback_of.false in absurd (cc (on, off)),
)
