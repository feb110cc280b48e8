use Rattle.std.proofs.Common.{Result, IfOk}
use Rattle.std.proofs.lemmas.Result.{IfOk-weaker}
use Rattle.pc_ends.proofs.Left.{both_finished}
use Rattle.pc_ends.specs.SessionClock.{session_rule}
use Rattle.pc_ends.proofs.ending.finish.Goals as goal

pub returns : goal.returns
returns g c =
    IfOk-weaker c.finish_recoverers.result _ _
    (λ all left. both_finished (session_rule g.C.Clock.rule) c.args.sessions.items c.args.recoverers.items c.in_ok-leavers.leavers.items all.items left.0 left.1 c.in_ok-leavers.ensures left.2)
    c.finish_recoverers.ensures
