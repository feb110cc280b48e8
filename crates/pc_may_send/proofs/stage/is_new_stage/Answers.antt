use Rattle.std.proofs.Common.{◌≡◌, true}
use Rattle.pc_may_send.proofs.stage.is_new_stage.Goals as goal

pub returns-then-is_whole : goal.returns-then-is_whole
returns-then-is_whole c k keeps = (λ ok. ((c.is_whole.ensures k keeps).0 c.if-is_whole.true, (c.is_own_way_free.ensures k keeps).0 ok), λ m. (c.is_own_way_free.ensures k keeps).1 m.1)

pub returns-else-is_whole : goal.returns-else-is_whole
returns-else-is_whole c k keeps = (
  λ h. absurd cc,
  λ m. let on : c.is_whole.result ≡ true = (c.is_whole.ensures k keeps).1 m.0 in let off = c.if-is_whole.false in absurd (cc (on, off)),
)
