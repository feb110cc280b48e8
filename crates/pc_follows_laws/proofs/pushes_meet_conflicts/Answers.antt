use Rattle.pc_follows_laws.proofs.CallRounds.{pushes_meet_conflicts}
use Rattle.pc_follows_laws.proofs.pushes_meet_conflicts.Goals as goal

pub returns : goal.returns
returns c = pushes_meet_conflicts
