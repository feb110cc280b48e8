use Rattle.std.proofs.Common.{arith}
use Rattle.std.proofs.lemmas.Grind.{common_steps}
use Rattle.pc_eval.proofs.OnRecord.{on_record}
use Rattle.pc_eval.proofs.state.RangeState.eval.Goals as goal

pub returns-in_default : goal.returns-in_default
returns-in_default c =
    let arm = c.in_default in
    let row = on_record c.args.request.now c.args.self.now arm.not-Get arm.not-Scan arm.not-Put arm.not-Refresh arm.not-Query arm.not-Resolve in
    let answered = row.same_reply in
    let changed = row.same_state in
    grind (arith, common_steps)
