use Rattle.std.proofs.Common.{None, sym, subst}
use Rattle.pc_call.proofs.Faults.{rolled_back_told}
use Rattle.pc_call.specs.Finished.{MayTellOver}
use Rattle.pc_proto.specs.declared.answer.Answer.TheVariants as answers
use Rattle.pc_call.proofs.call.OpenCall.rolled_back_unheard.Goals as goal

pub returns-in_ok-why-in-Abort-clause-over : goal.returns-in_ok-why-in-Abort-clause-over
returns-in_ok-why-in-Abort-clause-over c = λ session set k loses w.
    subst (λ why. MayTellOver set session k (record { answer = answers.RolledBack c.args.txn.now.id why; left = None })) (sym c.in_ok-why-in-Abort.ensures)
    (rolled_back_told session set k c.args.txn.now c.args.self.now.purpose c.args.self.now.wave w _ c.in-Abort.is loses)
