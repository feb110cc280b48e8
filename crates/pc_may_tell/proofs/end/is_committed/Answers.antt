use Rattle.std.proofs.Common.{◌≡◌, true}
use Rattle.pc_may_tell.proofs.end.is_committed.Goals as goal

pub returns-then-is_commit_of : goal.returns-then-is_commit_of
returns-then-is_commit_of c k keeps = (λ ok. (c.is_commit_of.ensures.0 c.if-is_commit_of.true, (c.has_committed.ensures k keeps).0 ok), λ m. (c.has_committed.ensures k keeps).1 m.1)

pub returns-else-is_commit_of : goal.returns-else-is_commit_of
returns-else-is_commit_of c k keeps = (
  λ h. absurd cc,
  λ m. let on : c.is_commit_of.result ≡ true = c.is_commit_of.ensures.1 m.0 in let off = c.if-is_commit_of.false in absurd (cc (on, off)),
)
