use Rattle.std.proofs.Common.{sym, subst}
use Rattle.pc_call.proofs.Joined.{call_again}
use Rattle.pc_call.specs.Serving.{InCall}
use Rattle.pc_call.proofs.call.OpenCall.again.Goals as goal

pub returns-clause-stands : goal.returns-clause-stands
returns-clause-stands c = λ session clock begun set start k x conflict counted w due made.
    subst (λ now. InCall set k x c.args.self.now.purpose now) (sym c.again.ensures.made)
    (call_again session clock begun set start k x c.args.self.now.purpose c.args.self.now.wave counted w c.args.number conflict due made)
