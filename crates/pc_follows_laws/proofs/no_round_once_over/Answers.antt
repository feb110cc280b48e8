use Rattle.pc_follows_laws.proofs.PipelinedRounds.{no_round_once_over}
use Rattle.pc_follows_laws.proofs.no_round_once_over.Goals as goal

pub returns : goal.returns
returns c = no_round_once_over
