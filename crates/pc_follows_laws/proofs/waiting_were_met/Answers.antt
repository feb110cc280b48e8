use Rattle.pc_follows_laws.proofs.PipelinedRounds.{waiting_were_met}
use Rattle.pc_follows_laws.proofs.waiting_were_met.Goals as goal

pub returns : goal.returns
returns c = waiting_were_met
