use Rattle.pc_serial.proofs.laws.committed_once.Goals as goal
use Rattle.pc_serial.proofs.Legal.{told-once}

pub returns : goal.returns
returns c head history e id ts run there tells = told-once head history run e id ts there tells
