use Rattle.std.proofs.Common.{ap, sym, ◌∙◌, subst}
use Rattle.pc_call.proofs.Landing.{write_landed}
use Rattle.pc_call.specs.Ended.{landed_first}
use Rattle.pc_call.specs.Learned.{known_heard}
use Rattle.pc_call.specs.Telling.{MayTellOpen}
use Rattle.pc_proto.specs.declared.answer.Answer.TheVariants as answers
use Rattle.pc_call.proofs.call.OpenCall.written.Goals as goal

pub returns-clause-stands : goal.returns-clause-stands
returns-clause-stands c = λ session clock begun number set k h counted alone w writes waited is above at.
    let x = c.args.txn.now in
    let ms = c.args.self.wave in
    subst (MayTellOpen set session (known_heard h k) answers.Written) (sym (c.land_first.ensures ∙ ap (λ ms. landed_first ms c.args.ts c.args.step x) c.messages.ensures ∙ ap (λ step. landed_first ms c.args.ts step x) (sym at)))
    (write_landed session clock begun set k x c.args.self.purpose ms counted w number c.args.ts h waited is writes alone above)
