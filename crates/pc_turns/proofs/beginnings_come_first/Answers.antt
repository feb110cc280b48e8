use Rattle.pc_turns.proofs.Order.{beginnings_come_first}
use Rattle.pc_turns.proofs.beginnings_come_first.Goals as goal

pub returns : goal.returns
returns c = beginnings_come_first
