use Rattle.std.proofs.Common.{◌≡◌, ◌↔◌, IsTrue, sym, subst}
use Rattle.pc_judge.proofs.Exact.{metas_decide}
use Rattle.pc_judge.proofs.same.same_metas.Goals as goal

pub returns : goal.returns
returns c = subst (λ b. IsTrue b ↔ (c.args.one.now ≡ c.args.other.now)) (sym c.eq.ensures) (metas_decide c.args.one.now c.args.other.now)
