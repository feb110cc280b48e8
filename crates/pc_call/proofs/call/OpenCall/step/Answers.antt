use Rattle.pc_call.proofs.Sending.{step_given}
use Rattle.pc_call.proofs.call.OpenCall.step.Goals as goal

pub returns-clause-may : goal.returns-clause-may
returns-clause-may c = λ session clock begun set k x counted w.
    step_given session clock begun set k x c.args.self.now.purpose c.args.self.now.wave counted w c.step.result c.step.ensures.due
