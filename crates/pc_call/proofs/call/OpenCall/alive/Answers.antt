use Rattle.std.proofs.Common.{ap, sym, ◌∙◌, subst}
use Rattle.pc_call.proofs.Heartbeats.{goes_on_undecided}
use Rattle.pc_call.specs.Alive.{GoesOnAlive}
use Rattle.pc_call.specs.Learned.{known_heard}
use Rattle.pc_txn.specs.Silence.{raised_at}
use Rattle.pc_call.proofs.call.OpenCall.alive.Goals as goal

pub returns-in-Beat-clause-goes_on : goal.returns-in-Beat-clause-goes_on
returns-in-Beat-clause-goes_on c = λ session clock begun number reading set k call reply h counted w beats waited is undecided at.
    subst (λ x. GoesOnAlive set.course (known_heard h k) x (record { call = call; reading = reading })) (sym (c.raise.ensures ∙ ap (λ step. raised_at c.args.recorded step c.args.txn.now) (sym at)))
    (goes_on_undecided session clock begun set k c.args.txn.now c.args.self.purpose c.args.self.wave counted w number reply h waited is call reading c.args.recorded beats undecided)
