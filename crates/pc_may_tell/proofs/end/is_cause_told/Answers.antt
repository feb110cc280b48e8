use Rattle.std.proofs.Common.{◌≡◌, true, inl, inr}
use Rattle.pc_may_tell.proofs.end.is_cause_told.Goals as goal

pub returns-then-was_own_aborted : goal.returns-then-was_own_aborted
returns-then-was_own_aborted c = (λ h. inl ((c.was_own_aborted.ensures).0 c.if-was_own_aborted.true), λ m. c.if-was_own_aborted.true)

pub returns-else-was_own_aborted : goal.returns-else-was_own_aborted
returns-else-was_own_aborted c = (
  λ ok. inr ((c.is_own_cause_told.ensures).0 ok),
  λ m. elim m [
    | inl h ↦ let on : c.was_own_aborted.result ≡ true = (c.was_own_aborted.ensures).1 h in let off = c.if-was_own_aborted.false in absurd (cc (on, off))
    | inr h ↦ (c.is_own_cause_told.ensures).1 h
  ],
)
