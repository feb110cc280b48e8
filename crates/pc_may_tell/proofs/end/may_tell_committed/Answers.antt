use Rattle.std.proofs.Common.{sym}
use Rattle.pc_known.proofs.Exact.{both}
use Rattle.pc_may_tell.proofs.Endings.{committed_iff}
use Rattle.pc_may_tell.proofs.end.may_tell_committed.Goals as goal

pub returns-in-Some : goal.returns-in-Some
returns-in-Some c k keeps = both (c.is_committed.ensures k keeps) (committed_iff k c.args.call.now c.in-Some.t.now (sym (c.in-Some.ensures k keeps)) c.args.id c.args.ts)
