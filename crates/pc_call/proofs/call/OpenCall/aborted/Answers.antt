use Rattle.std.proofs.Common.{sym, subst}
use Rattle.pc_call.proofs.FoundEnds.{found_aborted_call}
use Rattle.pc_call.specs.Finished.{MayTellOver}
use Rattle.pc_call.specs.Learned.{known_heard}
use Rattle.pc_proto.specs.declared.answer.Answer.TheVariants as answers
use Rattle.pc_call.proofs.call.OpenCall.aborted.Goals as goal

pub returns-clause-over : goal.returns-clause-over
returns-clause-over c = λ session clock begun number epoch set k locks h counted w may waited is.
    subst (λ left. MayTellOver set session (known_heard h k) (record { answer = answers.Aborted c.args.why; left = left })) (sym c.left_of.ensures)
    (found_aborted_call session clock begun set k c.args.txn c.args.self.purpose c.args.self.wave counted w may number epoch c.args.why locks h waited is)
