use Rattle.pc_reads.proofs.Goods.{refreshed_stand}
use Rattle.pc_reads.proofs.reads.TxnReads.refreshed.Goals as goal

pub returns-clause-stands : goal.returns-clause-stands
returns-clause-stands c = λ id heard reads stands rises each. refreshed_stand id heard reads c.args.self.now.spans c.args.self.now.ts c.args.to rises each stands
