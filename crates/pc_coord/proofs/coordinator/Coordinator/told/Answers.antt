use Rattle.std.proofs.Common.{sym, subst}
use Rattle.pc_coord.proofs.Told.{told_knows}
use Rattle.pc_coord.specs.Coordination.{with_nothing_due}
use Rattle.pc_coord.specs.Knows.{Knows}
use Rattle.pc_world.specs.Known.{learn}
use Rattle.pc_coord.proofs.coordinator.Coordinator.told.Goals as goal

pub returns-clause-knows : goal.returns-clause-knows
returns-clause-knows c = λ loses k p answer knows is. subst (λ n. Knows loses (with_nothing_due n) (learn p k)) (sym c.self.view_is) (told_knows loses c.args.self.now k p answer knows is)
