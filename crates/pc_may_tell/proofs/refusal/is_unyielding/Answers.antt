use Rattle.std.proofs.Common.{◌≡◌, true, inl, inr}
use Rattle.pc_may_tell.proofs.refusal.is_unyielding.Goals as goal

pub returns-then-some_refused : goal.returns-then-some_refused
returns-then-some_refused c = (λ h. inl ((c.some_refused.ensures).0 c.if-some_refused.true), λ m. c.if-some_refused.true)

pub returns-else-some_refused : goal.returns-else-some_refused
returns-else-some_refused c = (
  λ ok. inr ((c.met_eight_with.ensures).0 ok),
  λ m. elim m [
    | inl h ↦ let on : c.some_refused.result ≡ true = (c.some_refused.ensures).1 h in let off = c.if-some_refused.false in absurd (cc (on, off))
    | inr h ↦ (c.met_eight_with.ensures).1 h
  ],
)
