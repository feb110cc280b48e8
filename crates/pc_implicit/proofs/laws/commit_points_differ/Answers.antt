use Rattle.pc_implicit.proofs.CommitPoints.{commit_points_differ}
use Rattle.pc_implicit.proofs.laws.commit_points_differ.Goals as goal

pub returns : goal.returns
returns c = commit_points_differ
