use Rattle.std.proofs.Common.{◌∙◌}
use Rattle.pc_base.proofs.TxnOrder.{txn_equal}
use Rattle.pc_files.proofs.filed.taken_out.Goals as goal

pub returns-in-Some-clause-others : goal.returns-in-Some-clause-others
returns-in-Some-clause-others g c other differ = c.in-Some.ensures.updates.2 other (txn_equal c.args.id other ∙ differ)

pub returns-in-None-clause-others : goal.returns-in-None-clause-others
returns-in-None-clause-others g c other differ = c.in-None.ensures.updates.2 other (txn_equal c.args.id other ∙ differ)
