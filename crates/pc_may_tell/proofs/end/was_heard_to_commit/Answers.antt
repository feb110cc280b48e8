use Rattle.std.proofs.Common.{◌≡◌, true, inl, inr}
use Rattle.pc_may_tell.proofs.end.was_heard_to_commit.Goals as goal

pub returns-then-was_own_committed : goal.returns-then-was_own_committed
returns-then-was_own_committed c = (λ h. inl ((c.was_own_committed.ensures).0 c.if-was_own_committed.true), λ m. c.if-was_own_committed.true)

pub returns-else-was_own_committed : goal.returns-else-was_own_committed
returns-else-was_own_committed c = (
  λ ok. inr ((c.is_implicit.ensures).0 ok),
  λ m. elim m [
    | inl h ↦ let on : c.was_own_committed.result ≡ true = (c.was_own_committed.ensures).1 h in let off = c.if-was_own_committed.false in absurd (cc (on, off))
    | inr h ↦ (c.is_implicit.ensures).1 h
  ],
)
