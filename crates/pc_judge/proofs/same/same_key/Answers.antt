use Rattle.std.proofs.Common.{◌≡◌, ◌↔◌, IsTrue, sym, subst}
use Rattle.pc_judge.proofs.Exact.{key_decides}
use Rattle.pc_judge.proofs.same.same_key.Goals as goal

pub returns : goal.returns
returns c = subst (λ b. IsTrue b ↔ (c.args.one.now ≡ c.args.other.now)) (sym c.eq.ensures) (key_decides c.args.one.now c.args.other.now)
