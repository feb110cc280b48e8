use Rattle.pc_recoverer.proofs.Settling.{settling_on}
use Rattle.pc_recoverer.proofs.settle.settle_on.Goals as goal

pub returns-in-Ok-clause-ok : goal.returns-in-Ok-clause-ok
returns-in-Ok-clause-ok g c = λ old meta fate locks under due.
    settling_on old meta fate locks c.args.machine.now c.args.desk.now under c.args.request due c.heard.new.self c.exchange.new.desk c.in_ok-reply.reply c.in_ok-reply.ensures.ok c.heard.ensures.made c.heard.ensures.knows
