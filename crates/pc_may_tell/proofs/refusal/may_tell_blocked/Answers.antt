use Rattle.std.proofs.Common.{◌≡◌, true}
use Rattle.pc_may_tell.proofs.refusal.may_tell_blocked.Goals as goal

pub returns-then-is_blocked_now : goal.returns-then-is_blocked_now
returns-then-is_blocked_now c k keeps =
    let why = (c.is_blocked_now.ensures k keeps).0 c.if-is_blocked_now.true in
    (λ ok. record { asked = why.0; why = why.1; uncommitted = (c.is_uncommitted_by.ensures k keeps).0 ok }, λ m. (c.is_uncommitted_by.ensures k keeps).1 m.uncommitted)

pub returns-else-is_blocked_now : goal.returns-else-is_blocked_now
returns-else-is_blocked_now c k keeps = (
  λ h. absurd cc,
  λ m. let on : c.is_blocked_now.result ≡ true = (c.is_blocked_now.ensures k keeps).1 (m.asked, m.why) in let off = c.if-is_blocked_now.false in absurd (cc (on, off)),
)
