use Rattle.std.proofs.Common.{◌≡◌, ◌↔◌, true, Any, IsTrue, subst}
use Rattle.pc_known.proofs.Exact.{both}
use Rattle.pc_may_send.proofs.Narrowed.{some_missed}
use Rattle.pc_may_send.proofs.recovery.may_miss.Goals as goal
use Rattle.pc_may_send.specs.Listed.{HasMissed}

pub returns-then-is_own_name : goal.returns-then-is_own_name
returns-then-is_own_name c k keeps =
    let rest : IsTrue c.was_some_missed.result ↔ Any (HasMissed k.heard c.args.id c.args.epoch c.args.ts c.args.key.now c.args.by) k.heard =
    both
    (subst (λ hs. IsTrue c.was_some_missed.result ↔ Any (HasMissed hs c.args.id c.args.epoch c.args.ts c.args.key.now c.args.by) hs) (c.replies.ensures k keeps) c.was_some_missed.ensures)
    (some_missed c.args.id k.heard c.args.epoch c.args.ts c.args.key.now c.args.by) in
    (λ ok. ((c.is_own_name.ensures k keeps).0 c.if-is_own_name.true, rest.0 ok), λ m. rest.1 m.1)

pub returns-else-is_own_name : goal.returns-else-is_own_name
returns-else-is_own_name c k keeps = (
  λ h. absurd cc,
  λ m. let on : c.is_own_name.result ≡ true = (c.is_own_name.ensures k keeps).1 m.0 in let off = c.if-is_own_name.false in absurd (cc (on, off)),
)
