use Rattle.pc_follows_laws.proofs.CallRounds.{resolves_meet_conflicts}
use Rattle.pc_follows_laws.proofs.resolves_meet_conflicts.Goals as goal

pub returns : goal.returns
returns c = resolves_meet_conflicts
