use Rattle.std.proofs.Common.{◌≡◌, ◌↔◌, IsTrue, sym, subst}
use Rattle.pc_judge.proofs.Exact.{meta_decides}
use Rattle.pc_judge.proofs.same.same_meta.Goals as goal

pub returns : goal.returns
returns c = subst (λ b. IsTrue b ↔ (c.args.one.now ≡ c.args.other.now)) (sym c.eq.ensures) (meta_decides c.args.one.now c.args.other.now)
