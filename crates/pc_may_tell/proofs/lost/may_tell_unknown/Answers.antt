use Rattle.std.proofs.Common.{sym}
use Rattle.pc_known.proofs.Exact.{both}
use Rattle.pc_may_tell.proofs.Losses.{unknown_iff}
use Rattle.pc_may_tell.proofs.lost.may_tell_unknown.Goals as goal

pub returns-in-Some : goal.returns-in-Some
returns-in-Some c k keeps = both (c.is_unknown.ensures k keeps) (unknown_iff k c.args.call.now c.in-Some.t.now (sym (c.in-Some.ensures k keeps)) c.args.id)
