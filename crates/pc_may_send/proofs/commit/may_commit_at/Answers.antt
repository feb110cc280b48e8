use Rattle.std.proofs.Common.{◌≡◌, true, inl, inr}
use Rattle.pc_may_send.proofs.commit.may_commit_at.Goals as goal

pub returns-then-may_decide : goal.returns-then-may_decide
returns-then-may_decide c k keeps mine = (λ h. inl ((c.may_decide.ensures k keeps mine).0 c.if-may_decide.true), λ m. c.if-may_decide.true)

pub returns-else-may_decide : goal.returns-else-may_decide
returns-else-may_decide c k keeps mine = (
  λ ok. inr ((c.was_committed_so.ensures k keeps).0 ok),
  λ m. elim m [
    | inl h ↦ let on : c.may_decide.result ≡ true = (c.may_decide.ensures k keeps mine).1 h in let off = c.if-may_decide.false in absurd (cc (on, off))
    | inr h ↦ (c.was_committed_so.ensures k keeps).1 h
  ],
)
