use Rattle.pc_implicit.proofs.ToldCommits.{told_commits_stand_ok}
use Rattle.pc_implicit.proofs.staging.told_commits_stand.Goals as goal

pub returns : goal.returns
returns c = told_commits_stand_ok
