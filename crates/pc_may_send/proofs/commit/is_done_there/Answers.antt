use Rattle.std.proofs.Common.{◌≡◌, ◌↔◌, true, All, IsTrue, subst}
use Rattle.pc_world.specs.Known.Writes.{IsProvedBy}
use Rattle.pc_may_send.proofs.commit.is_done_there.Goals as goal

pub returns-then-is_good_there : goal.returns-then-is_good_there
returns-then-is_good_there c k keeps =
    let proved = subst (λ ws. IsTrue c.are_writes_proved_by.result ↔ All (IsProvedBy c.args.ts) ws) c.writes.ensures c.are_writes_proved_by.ensures in
    (λ ok. ((c.is_good_there.ensures k keeps).0 c.if-is_good_there.true, proved.0 ok), λ m. proved.1 m.1)

pub returns-else-is_good_there : goal.returns-else-is_good_there
returns-else-is_good_there c k keeps = (
  λ h. absurd cc,
  λ m. let on : c.is_good_there.result ≡ true = (c.is_good_there.ensures k keeps).1 m.0 in let off = c.if-is_good_there.false in absurd (cc (on, off)),
)
