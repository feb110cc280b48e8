use Rattle.std.proofs.Common.{◌≡◌, true}
use Rattle.pc_may_tell.proofs.data.may_tell_value.Goals as goal

pub returns-then-is_get : goal.returns-then-is_get
returns-then-is_get c k keeps =
    let asks = c.is_get.ensures.0 c.if-is_get.true in
    (λ ok. record { key = asks.0; asked = asks.1; heard = (c.was_value_heard.ensures k keeps).0 ok }, λ m. (c.was_value_heard.ensures k keeps).1 m.heard)

pub returns-else-is_get : goal.returns-else-is_get
returns-else-is_get c k keeps = (
  λ h. absurd cc,
  λ m. let on : c.is_get.result ≡ true = c.is_get.ensures.1 (m.key, m.asked) in let off = c.if-is_get.false in absurd (cc (on, off)),
)
