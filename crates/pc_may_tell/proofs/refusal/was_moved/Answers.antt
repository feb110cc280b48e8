use Rattle.std.proofs.Common.{◌≡◌, true}
use Rattle.pc_may_tell.proofs.refusal.was_moved.Goals as goal

pub returns-then-moved_eight : goal.returns-then-moved_eight
returns-then-moved_eight c = (λ ok. ((c.moved_eight.ensures).0 c.if-moved_eight.true, (c.moved_last.ensures).0 ok), λ m. (c.moved_last.ensures).1 m.1)

pub returns-else-moved_eight : goal.returns-else-moved_eight
returns-else-moved_eight c = (
  λ h. absurd cc,
  λ m. let on : c.moved_eight.result ≡ true = (c.moved_eight.ensures).1 m.0 in let off = c.if-moved_eight.false in absurd (cc (on, off)),
)
