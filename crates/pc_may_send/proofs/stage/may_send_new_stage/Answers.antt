use Rattle.std.proofs.Common.{sym}
use Rattle.pc_known.proofs.Exact.{both}
use Rattle.pc_may_send.proofs.Existing.{new_stage}
use Rattle.pc_may_send.proofs.stage.may_send_new_stage.Goals as goal

pub returns-in-Some : goal.returns-in-Some
returns-in-Some c k keeps = both (c.is_new_stage_in.ensures k keeps) (new_stage k c.in-Some.t.now (sym (c.in-Some.ensures k keeps)) c.args.stage.now)
