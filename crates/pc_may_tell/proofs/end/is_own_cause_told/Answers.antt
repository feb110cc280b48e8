use Rattle.std.proofs.Common.{◌≡◌, ◌↔◌, true, IsTrue, subst, sym}
use Rattle.pc_may_tell.proofs.end.is_own_cause_told.Goals as goal
use Rattle.pc_proto.specs.declared.why.Why.{Why}
use Rattle.pc_world.specs.Send.Abort.{own_cause}
use Rattle.pc_world.specs.Views.{WasAborted}

pub returns-then-was_not_aborted : goal.returns-then-was_not_aborted
returns-then-was_not_aborted c =
    let none : (other : Why) → WasAborted c.args.heard_now.now c.args.t.now.id other → ⊥ =
    subst (λ id. (other : Why) → WasAborted c.args.heard_now.now id other → ⊥) c.id.ensures (c.was_not_aborted.ensures.0 c.if-was_not_aborted.true) in
    let cause : IsTrue c.is_own_cause.result ↔ (c.args.why.now ≡ own_cause c.args.t.now.restart) =
    subst (λ o. IsTrue c.is_own_cause.result ↔ (c.args.why.now ≡ own_cause o)) c.restart.ensures c.is_own_cause.ensures in
    (λ ok. (none, cause.0 ok), λ m. cause.1 m.1)

pub returns-else-was_not_aborted : goal.returns-else-was_not_aborted
returns-else-was_not_aborted c = (
  λ h. absurd cc,
  λ m.
      let on : c.was_not_aborted.result ≡ true = c.was_not_aborted.ensures.1 (subst (λ id. (other : Why) → WasAborted c.args.heard_now.now id other → ⊥) (sym c.id.ensures) m.0) in
      let off = c.if-was_not_aborted.false in
      absurd (cc (on, off)),
)
