use Rattle.pc_recover.proofs.Stepping.{next_may}
use Rattle.pc_recover.proofs.machine.RecoverMachine.next.Goals as goal

pub returns-clause-may : goal.returns-clause-may
returns-clause-may c = next_may c.args.self.now c.next_due.result c.next_due.ensures
