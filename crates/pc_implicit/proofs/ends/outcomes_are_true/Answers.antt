use Rattle.pc_implicit.proofs.Outcomes.{outcomes_are_true}
use Rattle.pc_implicit.proofs.ends.outcomes_are_true.Goals as goal

pub returns : goal.returns
returns c = outcomes_are_true
