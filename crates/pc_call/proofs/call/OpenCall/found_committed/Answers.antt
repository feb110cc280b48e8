use Rattle.std.proofs.Common.{sym, subst}
use Rattle.pc_call.proofs.FoundEnds.{found_committed_call}
use Rattle.pc_call.specs.Finished.{MayTellOver}
use Rattle.pc_call.specs.Learned.{known_heard}
use Rattle.pc_call.proofs.call.OpenCall.found_committed.Goals as goal

pub returns-clause-over : goal.returns-clause-over
returns-clause-over c = λ session clock begun number set k locks h counted w may waited is.
    subst (MayTellOver set session (known_heard h k)) (sym c.over_committed.ensures) (found_committed_call session clock begun set k c.args.txn c.args.self.purpose c.args.self.wave counted w may number c.args.epoch c.args.ts locks h waited is)
