use Rattle.pc_resolve.proofs.Stepping.{heard_ok}
use Rattle.pc_resolve.proofs.machine.ResolveMachine.heard.Goals as goal

pub returns-clause-knows : goal.returns-clause-knows
returns-clause-knows c = heard_ok c.args.self.now c.hear.new.self c.args.reply.now c.hear.ensures
