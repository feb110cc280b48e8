use Rattle.pc_refusals.proofs.Counted.{refusals_go}
use Rattle.pc_refusals.proofs.laws.refusals_go_on.Goals as goal

pub returns : goal.returns
returns c = refusals_go
