use Rattle.std.proofs.Common.{sym, ap}
use Rattle.pc_coord.proofs.Leaving.{left_else}
use Rattle.pc_coord.proofs.coordinator.Coordinator.clear_by.Goals as goal

pub returns-in_default : goal.returns-in_default
returns-in_default c = sym (ap (λ l. record c.args.self.now { later = l }) (left_else c.args.answer.now c.args.self.now.later c.in_default.not-Restart))
