use Rattle.std.proofs.Common.{refl}
use Rattle.pc_recover.proofs.Going.{new_knows}
use Rattle.pc_recover.proofs.machine.RecoverMachine.new.Goals as goal

pub returns-clause-knows : goal.returns-clause-knows
returns-clause-knows c = λ actor k may. new_knows actor k _ refl may
