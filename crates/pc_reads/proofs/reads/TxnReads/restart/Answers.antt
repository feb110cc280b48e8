use Rattle.std.proofs.Common.{[], sym, subst}
use Rattle.pc_reads.proofs.Goods.{none_read}
use Rattle.pc_reads.specs.ReadsStanding.{TxnReadsStand}
use Rattle.pc_reads.proofs.reads.TxnReads.restart.Goals as goal

pub returns-clause-stands : goal.returns-clause-stands
returns-clause-stands c = λ id heard. subst (λ spans. TxnReadsStand id heard [] (record { spans = spans; ts = c.args.ts })) (sym c.clear.ensures) (none_read id heard c.args.ts)
