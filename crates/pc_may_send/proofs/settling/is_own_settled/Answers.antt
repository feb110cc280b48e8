use Rattle.std.proofs.Common.{◌≡◌, true}
use Rattle.pc_may_send.proofs.settling.is_own_settled.Goals as goal

pub returns-then-was_final_heard : goal.returns-then-was_final_heard
returns-then-was_final_heard c k keeps = (λ ok. ((c.was_final_heard.ensures k keeps).0 c.if-was_final_heard.true, (c.are_own_resolved.ensures k keeps).0 ok), λ m. (c.are_own_resolved.ensures k keeps).1 m.1)

pub returns-else-was_final_heard : goal.returns-else-was_final_heard
returns-else-was_final_heard c k keeps = (
  λ h. absurd cc,
  λ m. let on : c.was_final_heard.result ≡ true = (c.was_final_heard.ensures k keeps).1 m.0 in let off = c.if-was_final_heard.false in absurd (cc (on, off)),
)
