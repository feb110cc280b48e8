use Rattle.pc_coord.proofs.AllAwaited.{meets_all_awaited_ok}
use Rattle.pc_coord.proofs.laws.meets_all_awaited.Goals as goal

pub returns : goal.returns
returns c = meets_all_awaited_ok
