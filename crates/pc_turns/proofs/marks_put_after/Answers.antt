use Rattle.pc_turns.proofs.Moves.{marks_put_after}
use Rattle.pc_turns.proofs.marks_put_after.Goals as goal

pub returns : goal.returns
returns c = marks_put_after
