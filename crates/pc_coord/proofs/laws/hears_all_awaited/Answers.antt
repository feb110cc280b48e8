use Rattle.pc_coord.proofs.AllAwaited.{hears_all_awaited_ok}
use Rattle.pc_coord.proofs.laws.hears_all_awaited.Goals as goal

pub returns : goal.returns
returns c = hears_all_awaited_ok
