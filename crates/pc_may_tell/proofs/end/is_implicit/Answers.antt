use Rattle.std.proofs.Common.{◌≡◌, ◌↔◌, true, All, IsTrue, subst}
use Rattle.pc_world.specs.Known.Writes.{IsProvedBy}
use Rattle.pc_may_tell.proofs.end.is_implicit.Goals as goal

pub returns-then-was_own_staging : goal.returns-then-was_own_staging
returns-then-was_own_staging c = (λ ok. ((c.was_own_staging.ensures).0 c.if-was_own_staging.true, (subst (λ ws. IsTrue c.are_writes_proved_by.result ↔ All (IsProvedBy c.args.ts) ws) c.writes.ensures c.are_writes_proved_by.ensures).0 ok), λ m. (subst (λ ws. IsTrue c.are_writes_proved_by.result ↔ All (IsProvedBy c.args.ts) ws) c.writes.ensures c.are_writes_proved_by.ensures).1 m.1)

pub returns-else-was_own_staging : goal.returns-else-was_own_staging
returns-else-was_own_staging c = (
  λ h. absurd cc,
  λ m. let on : c.was_own_staging.result ≡ true = (c.was_own_staging.ensures).1 m.0 in let off = c.if-was_own_staging.false in absurd (cc (on, off)),
)
