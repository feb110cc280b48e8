use Rattle.std.proofs.Common.{◌↔◌, All, IsTrue, subst}
use Rattle.pc_world.specs.Known.Writes.{IsProvedBy}
use Rattle.pc_may_send.proofs.commit.are_writes_proved_by.Goals as goal

pub returns : goal.returns
returns c = subst (λ xs. IsTrue c.are_proved_by.result ↔ All (IsProvedBy c.args.ts) xs) c.as_slice.ensures c.are_proved_by.ensures
