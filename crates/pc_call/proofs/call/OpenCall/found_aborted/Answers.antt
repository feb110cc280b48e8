use Rattle.std.proofs.Common.{refl, sym, subst}
use Rattle.pc_call.proofs.Heartbeats.{found_aborted_over}
use Rattle.pc_call.specs.Finished.{MayTellOver}
use Rattle.pc_call.specs.Learned.{known_heard}
use Rattle.pc_proto.specs.declared.answer.Answer.TheVariants as answers
use Rattle.pc_proto.specs.declared.view.View.TheVariants as views
use Rattle.pc_call.proofs.call.OpenCall.found_aborted.Goals as goal

pub returns-clause-over : goal.returns-clause-over
returns-clause-over c = λ session clock begun number epoch reading set k call locks h counted w beats waited is.
    subst (λ left. MayTellOver set session (known_heard h k) (record { answer = answers.Aborted c.args.why; left = left })) (sym c.left_of.ensures)
    (found_aborted_over session clock begun set k c.args.txn c.args.self.purpose c.args.self.wave counted w number (views.Aborted epoch c.args.why locks) h waited is call reading beats epoch c.args.why locks refl)
