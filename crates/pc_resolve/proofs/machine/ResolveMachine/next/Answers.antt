use Rattle.pc_resolve.proofs.Stepping.{next_may}
use Rattle.pc_resolve.proofs.machine.ResolveMachine.next.Goals as goal

pub returns-clause-may : goal.returns-clause-may
returns-clause-may c = λ splits actor start k knows. next_may start k c.args.self.now knows splits actor c.next_due.result c.next_due.ensures
