use Rattle.std.proofs.Common.{◌≡◌, true}
use Rattle.pc_may_tell.proofs.refusal.is_moved_commit.Goals as goal

pub returns-then-is_commit : goal.returns-then-is_commit
returns-then-is_commit c k keeps = (λ ok. ((c.is_commit.ensures).0 c.if-is_commit.true, (c.was_moved_now.ensures k keeps).0 ok), λ m. (c.was_moved_now.ensures k keeps).1 m.1)

pub returns-else-is_commit : goal.returns-else-is_commit
returns-else-is_commit c k keeps = (
  λ h. absurd cc,
  λ m. let on : c.is_commit.result ≡ true = (c.is_commit.ensures).1 m.0 in let off = c.if-is_commit.false in absurd (cc (on, off)),
)
