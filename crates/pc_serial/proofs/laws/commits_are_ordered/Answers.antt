use Rattle.pc_serial.proofs.laws.commits_are_ordered.Goals as goal
use Rattle.pc_serial.proofs.Legal.{is-ordered}

pub returns : goal.returns
returns c = is-ordered
