use Rattle.std.proofs.Common.{max, sym, subst}
use Rattle.pc_exchange.proofs.Finishing.{finishing_on}
use Rattle.pc_exchange.specs.Finishing.{IsJobUnderWay}
use Rattle.pc_exchange.proofs.finish.settle_on.Goals as goal

pub returns-in-Ok-clause-ok : goal.returns-in-Ok-clause-ok
returns-in-Ok-clause-ok g c = λ old job ts under due.
    subst (λ n. IsJobUnderWay old job c.heard.new.self c.exchange.new.desk (max ts n)) (sym c.last_stamp.ensures)
    (finishing_on old job c.args.machine.now c.args.desk.now ts under c.args.request due c.heard.new.self c.exchange.new.desk c.in_ok-reply.reply c.in_ok-reply.ensures.ok c.heard.ensures.made c.heard.ensures.knows)
