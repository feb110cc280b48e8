use Rattle.pc_follows_laws.proofs.CallRounds.{rounds_meet_conflicts}
use Rattle.pc_follows_laws.proofs.rounds_meet_conflicts.Goals as goal

pub returns : goal.returns
returns c = rounds_meet_conflicts
