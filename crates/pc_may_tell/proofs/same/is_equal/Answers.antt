use Rattle.std.proofs.Common.{◌≡◌, ◌↔◌, IsTrue, sym, subst}
use Rattle.pc_may_tell.proofs.EqualRequests.{requests_decide}
use Rattle.pc_may_tell.proofs.same.is_equal.Goals as goal

pub returns : goal.returns
returns c = subst (λ b. IsTrue b ↔ (c.args.one.now ≡ c.args.other.now)) (sym c.eq.ensures) (requests_decide c.args.one.now c.args.other.now)
