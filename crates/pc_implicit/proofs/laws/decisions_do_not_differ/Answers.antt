use Rattle.pc_implicit.proofs.OneDecision.{decisions_do_not_differ}
use Rattle.pc_implicit.proofs.laws.decisions_do_not_differ.Goals as goal

pub returns : goal.returns
returns c = decisions_do_not_differ
