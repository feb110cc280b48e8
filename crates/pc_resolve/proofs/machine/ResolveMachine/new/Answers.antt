use Rattle.std.proofs.Common.{refl}
use Rattle.pc_resolve.proofs.Going.{new_knows}
use Rattle.pc_resolve.proofs.machine.ResolveMachine.new.Goals as goal

pub returns-clause-knows : goal.returns-clause-knows
returns-clause-knows c = λ k may. new_knows k _ refl refl may
