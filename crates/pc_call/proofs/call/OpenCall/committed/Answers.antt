use Rattle.std.proofs.Common.{refl, sym, subst}
use Rattle.pc_call.proofs.Decided.{committed_over}
use Rattle.pc_call.specs.Finished.{MayTellOver}
use Rattle.pc_call.specs.Learned.{known_heard}
use Rattle.pc_proto.specs.declared.view.View.TheVariants as views
use Rattle.pc_call.proofs.call.OpenCall.committed.Goals as goal

pub returns-clause-over : goal.returns-clause-over
returns-clause-over c = λ session clock begun number n set k locks h counted w commits waited is.
    subst (MayTellOver set session (known_heard h k)) (sym c.over_committed.ensures)
    (committed_over session clock begun set k c.args.txn c.args.self.purpose c.args.self.wave counted w number (views.Committed c.args.epoch c.args.ts locks) h waited is n commits c.args.epoch c.args.ts locks refl)
