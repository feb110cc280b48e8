use Rattle.pc_implicit.proofs.Holders.{holders_were_begun}
use Rattle.pc_implicit.proofs.laws.holders_were_begun.Goals as goal

pub returns : goal.returns
returns c = holders_were_begun
