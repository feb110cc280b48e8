use Rattle.pc_call.proofs.Restarting.{same_puts}
use Rattle.pc_call.proofs.call.OpenCall.decides_on.Goals as goal

pub returns-in-Refresh-clause-stands : goal.returns-in-Refresh-clause-stands
returns-in-Refresh-clause-stands c = λ session n set k s puts d o may is reading suits.
    c.in_ok-call-in-Refresh.ensures.stands set k s (same_puts set.course.loses k c.args.txn.now s c.args.self.purpose n c.in-Refresh.refusals puts _ is c.in-Refresh.is d) o may reading suits
