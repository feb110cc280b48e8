use Rattle.pc_follows_laws.proofs.PipelinedRounds.{nothing_behind_the_eighth}
use Rattle.pc_follows_laws.proofs.nothing_behind_the_eighth.Goals as goal

pub returns : goal.returns
returns c = nothing_behind_the_eighth
