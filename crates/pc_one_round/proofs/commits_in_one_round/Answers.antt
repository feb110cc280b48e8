use Rattle.pc_one_round.proofs.OneRun.{one_round}
use Rattle.pc_one_round.proofs.commits_in_one_round.Goals as goal

pub returns : goal.returns
returns c = one_round
