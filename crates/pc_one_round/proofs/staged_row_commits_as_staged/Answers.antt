use Rattle.pc_one_round.proofs.StagedCommit.{staged_row_ok}
use Rattle.pc_one_round.proofs.staged_row_commits_as_staged.Goals as goal

pub returns : goal.returns
returns c = staged_row_ok
