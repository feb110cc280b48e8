use Rattle.std.proofs.Common.{sym}
use Rattle.pc_known.proofs.Exact.{both}
use Rattle.pc_may_tell.proofs.Losses.{own_put, own_put_none}
use Rattle.pc_may_tell.proofs.lost.is_own_unproved.Goals as goal

pub returns-in-Some : goal.returns-in-Some
returns-in-Some c k keeps = both (c.is_unproved_of.ensures k keeps) (own_put k c.args.request.now c.in-Some.id (sym c.in-Some.ensures))

pub returns-in-None : goal.returns-in-None
returns-in-None c k keeps = (λ h. absurd cc, λ m. absurd (own_put_none k c.args.request.now (sym c.in-None.ensures) m))
