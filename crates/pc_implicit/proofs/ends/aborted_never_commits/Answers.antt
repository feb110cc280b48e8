use Rattle.pc_implicit.proofs.Ended.{aborted_never_commits}
use Rattle.pc_implicit.proofs.ends.aborted_never_commits.Goals as goal

pub returns : goal.returns
returns c = aborted_never_commits
