use Rattle.pc_serial.proofs.laws.one_entry_commits.Goals as goal
use Rattle.pc_serial.proofs.OneEntry.{one_entry_commits}

pub returns : goal.returns
returns c = one_entry_commits
