use Rattle.pc_turns.proofs.Moves.{turns_are_kept}
use Rattle.pc_turns.proofs.turns_are_kept.Goals as goal

pub returns : goal.returns
returns c = turns_are_kept
