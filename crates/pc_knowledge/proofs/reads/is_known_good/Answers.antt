use Rattle.std.proofs.Common.{rules}
use Rattle.pc_knowledge.proofs.LastGood.{open_good}
use Rattle.pc_knowledge.proofs.reads.is_known_good.Goals as goal

pub returns : goal.returns
returns c k t keeps opened ok = open_good k t c.good.result c.args.ts (c.good.ensures k keeps) opened (search rules)
