use Rattle.std.proofs.Common.{◌↔◌, IsTrue, subst}
use Rattle.pc_world.specs.Send.Settling.{AllResolved}
use Rattle.pc_may_send.proofs.settling.are_keys_resolved.Goals as goal

pub returns : goal.returns
returns c k keeps = subst (λ xs. IsTrue c.all_resolved.result ↔ AllResolved k.heard c.args.id xs) c.as_slice.ensures (c.all_resolved.ensures k keeps)
