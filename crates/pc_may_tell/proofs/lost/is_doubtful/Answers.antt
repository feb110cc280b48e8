use Rattle.std.proofs.Common.{◌≡◌, true, inl, inr}
use Rattle.pc_may_tell.proofs.lost.is_doubtful.Goals as goal

pub returns-then-some_live_stage : goal.returns-then-some_live_stage
returns-then-some_live_stage c = (λ h. inl ((c.some_live_stage.ensures).0 c.if-some_live_stage.true), λ m. c.if-some_live_stage.true)

pub returns-else-some_live_stage : goal.returns-else-some_live_stage
returns-else-some_live_stage c = (
  λ ok. inr ((c.some_live_commit.ensures).0 ok),
  λ m. elim m [
    | inl h ↦ let on : c.some_live_stage.result ≡ true = (c.some_live_stage.ensures).1 h in let off = c.if-some_live_stage.false in absurd (cc (on, off))
    | inr h ↦ (c.some_live_commit.ensures).1 h
  ],
)
