use Rattle.std.proofs.Common.{◌≡◌, true}
use Rattle.pc_may_send.proofs.stage.is_new_stage_in.Goals as goal

pub returns-then-is_commit_at : goal.returns-then-is_commit_at
returns-then-is_commit_at c k keeps = (λ ok. ((c.is_commit_at.ensures k keeps).0 c.if-is_commit_at.true, (c.is_new_stage.ensures k keeps).0 ok), λ m. (c.is_new_stage.ensures k keeps).1 m.1)

pub returns-else-is_commit_at : goal.returns-else-is_commit_at
returns-else-is_commit_at c k keeps = (
  λ h. absurd cc,
  λ m. let on : c.is_commit_at.result ≡ true = (c.is_commit_at.ensures k keeps).1 m.0 in let off = c.if-is_commit_at.false in absurd (cc (on, off)),
)
