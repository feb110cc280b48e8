use Rattle.pc_follows_laws.proofs.PipelinedRounds.{pushes_meet_the_next}
use Rattle.pc_follows_laws.proofs.pushes_meet_the_next.Goals as goal

pub returns : goal.returns
returns c = pushes_meet_the_next
