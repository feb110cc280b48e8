use Rattle.pc_verdict.proofs.Unique.{one_verdict_is_right}
use Rattle.pc_verdict.proofs.laws.one_verdict_is_right.Goals as goal

pub returns : goal.returns
returns c = one_verdict_is_right
