use Rattle.std.proofs.Common.{◌↔◌, ◌≤◌, Any, IsTrue, subst}
use Rattle.pc_known.proofs.Exact.{both}
use Rattle.pc_may_tell.proofs.Alike.{was_lost_iff}
use Rattle.pc_may_tell.proofs.lost.was_lost.Goals as goal
use Rattle.pc_may_tell.specs.Losing.{WasSentLost}

pub returns-then-faults-ge1 : goal.returns-then-faults-ge1
returns-then-faults-ge1 c k keeps =
    let some : 1 ≤ c.args.faults = c.if-faults-ge1.true in
    both
    (subst (λ ms. IsTrue c.some_was_sent_lost.result ↔ Any (WasSentLost k c.args.faults) ms) (c.sent.ensures k keeps) (c.some_was_sent_lost.ensures k keeps))
    (was_lost_iff k c.args.faults some)
