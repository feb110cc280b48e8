use Rattle.pc_turns.proofs.Shares.{shares_make_up}
use Rattle.pc_turns.proofs.shares_make_up.Goals as goal

pub returns : goal.returns
returns c = shares_make_up
