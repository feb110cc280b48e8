use Rattle.pc_recover.proofs.Stepping.{heard_ok}
use Rattle.pc_recover.proofs.machine.RecoverMachine.heard.Goals as goal

pub returns-clause-knows : goal.returns-clause-knows
returns-clause-knows c = heard_ok c.args.self.now c.hear.new.self c.args.reply.now c.hear.result c.hear.ensures.ok
