use Rattle.pc_refusals.proofs.Counted.{counts_none}
use Rattle.pc_refusals.proofs.refusals.Refusals.new.Goals as goal

pub returns-clause-counts : goal.returns-clause-counts
returns-clause-counts c k none = counts_none k none
