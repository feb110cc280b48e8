use Rattle.pc_reads.proofs.Goods.{read_ok}
use Rattle.pc_reads.proofs.reads.TxnReads.read.Goals as goal

pub returns-clause-stands : goal.returns-clause-stands
returns-clause-stands c = λ id heard reads stands.
    read_ok c.add.result id heard reads c.args.self.now.spans c.args.self.now.ts c.args.span c.add.new.self c.add.ensures.ok c.add.ensures.covered c.add.ensures.kept stands
