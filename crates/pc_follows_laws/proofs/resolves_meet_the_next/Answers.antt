use Rattle.pc_follows_laws.proofs.PipelinedRounds.{resolves_meet_the_next}
use Rattle.pc_follows_laws.proofs.resolves_meet_the_next.Goals as goal

pub returns : goal.returns
returns c = resolves_meet_the_next
