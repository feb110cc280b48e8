use Rattle.pc_coord.proofs.ItsCall.{awaits_its_puts_ok}
use Rattle.pc_coord.proofs.laws.awaits_its_puts.Goals as goal

pub returns : goal.returns
returns c = awaits_its_puts_ok
