use Rattle.pc_turns.proofs.Shares.{turns_add_up}
use Rattle.pc_turns.proofs.turns_add_up.Goals as goal

pub returns : goal.returns
returns c = turns_add_up
