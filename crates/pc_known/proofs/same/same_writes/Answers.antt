use Rattle.std.proofs.Common.{◌≡◌, ◌↔◌, IsTrue, sym, subst}
use Rattle.pc_known.proofs.Exact.{writes_decide}
use Rattle.pc_known.proofs.same.same_writes.Goals as goal

pub returns : goal.returns
returns c = subst (λ b. IsTrue b ↔ (c.args.one.now ≡ c.args.other.now)) (sym c.eq.ensures) (writes_decide c.args.one.now c.args.other.now)
