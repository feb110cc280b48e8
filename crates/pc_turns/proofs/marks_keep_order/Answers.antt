use Rattle.pc_turns.proofs.Moves.{marks_keep_order}
use Rattle.pc_turns.proofs.marks_keep_order.Goals as goal

pub returns : goal.returns
returns c = marks_keep_order
