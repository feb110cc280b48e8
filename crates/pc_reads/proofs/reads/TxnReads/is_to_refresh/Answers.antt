use Rattle.std.proofs.Common.{◌≤◌, arith}
use Rattle.std.proofs.lemmas.Grind.{common_steps}
use Rattle.pc_reads.proofs.Goods.{at_or_below}
use Rattle.pc_reads.proofs.reads.TxnReads.is_to_refresh.Goals as goal

pub returns-else-lt-clause-good : goal.returns-else-lt-clause-good
returns-else-lt-clause-good c = λ id heard reads stands rises result.
    let low : c.args.to ≤ c.args.self.now.ts = grind (arith, common_steps, c.lt.ensures, c.if-lt.false) in
    at_or_below id heard reads c.args.self.now.spans c.args.self.now.ts c.args.to (omega (arith, low, rises)) stands
