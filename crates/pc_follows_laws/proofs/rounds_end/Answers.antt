use Rattle.pc_follows_laws.proofs.CallRounds.{rounds_end}
use Rattle.pc_follows_laws.proofs.rounds_end.Goals as goal

pub returns : goal.returns
returns c = rounds_end
