use Rattle.std.proofs.Common.{◌≡◌, true, inl, inr}
use Rattle.pc_may_tell.proofs.end.has_committed.Goals as goal

pub returns-then-is_unwritten : goal.returns-then-is_unwritten
returns-then-is_unwritten c k keeps = (λ h. inl ((c.is_unwritten.ensures k keeps).0 c.if-is_unwritten.true), λ m. c.if-is_unwritten.true)

pub returns-else-is_unwritten : goal.returns-else-is_unwritten
returns-else-is_unwritten c k keeps = (
  λ ok. inr ((c.was_heard_so.ensures k keeps).0 ok),
  λ m. elim m [
    | inl h ↦ let on : c.is_unwritten.result ≡ true = (c.is_unwritten.ensures k keeps).1 h in let off = c.if-is_unwritten.false in absurd (cc (on, off))
    | inr h ↦ (c.was_heard_so.ensures k keeps).1 h
  ],
)
