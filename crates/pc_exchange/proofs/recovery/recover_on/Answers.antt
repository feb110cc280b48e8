use Rattle.pc_exchange.proofs.Recovering.{recovering_on}
use Rattle.pc_exchange.proofs.recovery.recover_on.Goals as goal

pub returns-in-Ok-clause-ok : goal.returns-in-Ok-clause-ok
returns-in-Ok-clause-ok g c = λ d own holder met start under due.
    recovering_on d own holder met start c.args.machine.now c.args.desk.now under c.args.request due c.exchange.new.desk c.in_ok-reply.reply c.in_ok-reply.ensures.ok c.heard.new.self c.in-Ok.ensures.made c.in-Ok.ensures.knows
