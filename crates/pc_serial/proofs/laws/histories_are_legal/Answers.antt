use Rattle.pc_serial.proofs.laws.histories_are_legal.Goals as goal
use Rattle.pc_serial.proofs.Legal.{is-legal}

pub returns : goal.returns
returns c = is-legal
