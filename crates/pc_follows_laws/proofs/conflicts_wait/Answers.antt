use Rattle.pc_follows_laws.proofs.PipelinedRounds.{conflicts_wait}
use Rattle.pc_follows_laws.proofs.conflicts_wait.Goals as goal

pub returns : goal.returns
returns c = conflicts_wait
