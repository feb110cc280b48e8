use Rattle.std.proofs.Common.{◌≡◌, true}
use Rattle.pc_may_send.proofs.stage.is_whole.Goals as goal

pub returns-then-stages_all : goal.returns-then-stages_all
returns-then-stages_all c k keeps = (λ ok. (c.stages_all.ensures.0 c.if-stages_all.true, (c.is_good_at.ensures k keeps).0 ok), λ m. (c.is_good_at.ensures k keeps).1 m.1)

pub returns-else-stages_all : goal.returns-else-stages_all
returns-else-stages_all c k keeps = (
  λ h. absurd cc,
  λ m. let on : c.stages_all.result ≡ true = c.stages_all.ensures.1 m.0 in let off = c.if-stages_all.false in absurd (cc (on, off)),
)
