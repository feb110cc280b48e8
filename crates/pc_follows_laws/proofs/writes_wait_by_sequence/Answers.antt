use Rattle.pc_follows_laws.proofs.PipelinedRounds.{writes_wait_by_sequence}
use Rattle.pc_follows_laws.proofs.writes_wait_by_sequence.Goals as goal

pub returns : goal.returns
returns c = writes_wait_by_sequence
