use Rattle.std.proofs.Common.{◌≡◌, true}
use Rattle.pc_may_send.proofs.commit.is_nothing_elsewhere.Goals as goal

pub returns-then-are_late_elsewhere : goal.returns-then-are_late_elsewhere
returns-then-are_late_elsewhere c = (λ ok. ((c.are_late_elsewhere.ensures).0 c.if-are_late_elsewhere.true, (c.are_refused_elsewhere.ensures).0 ok), λ m. (c.are_refused_elsewhere.ensures).1 m.1)

pub returns-else-are_late_elsewhere : goal.returns-else-are_late_elsewhere
returns-else-are_late_elsewhere c = (
  λ h. absurd cc,
  λ m. let on : c.are_late_elsewhere.result ≡ true = (c.are_late_elsewhere.ensures).1 m.0 in let off = c.if-are_late_elsewhere.false in absurd (cc (on, off)),
)
