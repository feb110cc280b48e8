use Rattle.pc_implicit.proofs.Holders.{heads_have_holders}
use Rattle.pc_implicit.proofs.laws.heads_have_holders.Goals as goal

pub returns : goal.returns
returns c = heads_have_holders
