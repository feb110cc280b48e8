use Rattle.std.proofs.Common.{◌≡◌, true}
use Rattle.pc_may_send.proofs.stage.is_way_free.Goals as goal

pub returns-then-are_stages_passed : goal.returns-then-are_stages_passed
returns-then-are_stages_passed c = (λ ok. ((c.are_stages_passed.ensures).0 c.if-are_stages_passed.true, (c.are_commits_refused.ensures).0 ok), λ m. (c.are_commits_refused.ensures).1 m.1)

pub returns-else-are_stages_passed : goal.returns-else-are_stages_passed
returns-else-are_stages_passed c = (
  λ h. absurd cc,
  λ m. let on : c.are_stages_passed.result ≡ true = (c.are_stages_passed.ensures).1 m.0 in let off = c.if-are_stages_passed.false in absurd (cc (on, off)),
)
