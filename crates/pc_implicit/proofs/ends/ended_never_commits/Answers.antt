use Rattle.pc_implicit.proofs.Ended.{ended_never_commits}
use Rattle.pc_implicit.proofs.ends.ended_never_commits.Goals as goal

pub returns : goal.returns
returns c = ended_never_commits
