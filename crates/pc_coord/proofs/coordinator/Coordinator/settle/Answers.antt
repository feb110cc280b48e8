use Rattle.std.proofs.Common.{◌≡◌, List, Some, sym, ap, ◌∙◌, subst, OnOk}
use Rattle.pc_base.specs.declared.transaction.TxnId.{TxnId}
use Rattle.pc_call.specs.declared.call.OpenCall.{OpenCall}
use Rattle.pc_coord.proofs.Coming.{each_ok}
use Rattle.pc_coord.proofs.Aside.{again_aside, aside_idle}
use Rattle.pc_coord.proofs.Onward.{again_unanswered}
use Rattle.pc_coord.proofs.Steps.{on_ok}
use Rattle.pc_coord.proofs.Tying.{on_outbox}
use Rattle.pc_coord.specs.Aside.{KeepsAside}
use Rattle.pc_coord.specs.Coming.{ComesOf, ComesOfRound, goes_by_sequence}
use Rattle.pc_coord.specs.Coordination.{setting_of}
use Rattle.pc_coord.specs.declared.due.Due.TheVariants as dues
use Rattle.pc_coord.specs.Going.{HasHadRound}
use Rattle.pc_proto.specs.declared.answer.Answer.TheVariants as answers
use Rattle.pc_proto.specs.Replies.{holder_in}
use Rattle.pc_wave.specs.declared.message.Message.{Message}
use Rattle.pc_wave.specs.Messages.{conflicts_at, first_changed, goes_again, step_of}
use Rattle.pc_call.proofs.Faults.{call_gives_up}
use Rattle.pc_coord.proofs.Blocks.{beside_begins, round_idle}
use Rattle.pc_coord.proofs.Knowing.{served_begins}
use Rattle.pc_coord.proofs.Lost.{abort_meets}
use Rattle.pc_coord.proofs.coordinator.Coordinator.settle.Goals as goal
use Rattle.pc_coord.specs.UsedUp.{answer_lost}
use Rattle.pc_coord.specs.declared.round.Round.TheVariants as rounds
use Rattle.pc_coord.proofs.UsedUp.{same_faults}

pub returns-in-Again-clause-knows : goal.returns-in-Again-clause-knows
returns-in-Again-clause-knows c = λ loses start k clock conflict r counted w a due had.
    let s = c.args.self.now in
    let set = setting_of loses s in
    let call = c.args.call in
    let w2 = c.again.ensures.stands s.session clock s.begun set start k c.args.txn conflict counted w due (subst (λ r. HasHadRound loses r start k c.args.txn.id conflict) c.in-Again.is had) in
    let a2 = subst (λ (n : OpenCall). KeepsAside loses s.pipelining k c.args.txn n.purpose s.later n.wave) (sym c.again.ensures.made) (again_aside s.pipelining k c.args.txn call.purpose s.later call.wave a c.args.number) in
    c.go_on.ensures.knows loses k r w2 a2 (λ due2. absurd (again_unanswered c.args.number conflict call.wave due (ap step_of (sym (ap (λ (n : OpenCall). n.wave) c.again.ensures.made)) ∙ due2)))

pub returns-in-Again-clause-waits : goal.returns-in-Again-clause-waits
returns-in-Again-clause-waits c = λ conflict due.
    on_outbox c.go_on.result c.again.new.self.wave c.args.self.now.later c.go_on.new.self.due (λ n. c.again.ensures.awaited conflict n due) c.go_on.ensures.waits

pub returns-in-Refused-clause-knows : goal.returns-in-Refused-clause-knows
returns-in-Refused-clause-knows c = λ loses start k clock conflict r counted w a due had.
    c.refuse.ensures.knows loses start k clock c.args.number conflict r counted w a due (subst (λ r. HasHadRound loses r start k c.args.txn.id conflict) c.in-Refused.is had)

pub returns-in-Refused-clause-waits : goal.returns-in-Refused-clause-waits
returns-in-Refused-clause-waits c = λ conflict due. c.refuse.ensures.waits

pub returns-in-Lost-clause-knows : goal.returns-in-Lost-clause-knows
returns-in-Lost-clause-knows c = λ loses start k clock conflict r counted w a due had.
    let lost = subst (λ r. HasHadRound loses r start k c.args.txn.id conflict) c.in-Lost.is had in
    let s = c.args.self.now in
    let set = setting_of loses s in
    let x = c.args.txn in
    let p = c.args.call.purpose in
    let ms = c.args.call.wave in
    let n = c.args.number in
    c.end_lost.ensures.knows loses start k r lost.0 (λ why is. absurd (abort_meets set start x p ms w n conflict due why is)) (λ isnt. call_gives_up set start x p ms w isnt)
    (aside_idle s.pipelining k x p s.later ms a (λ i. round_idle i ms n conflict due)) lost.1 (beside_begins start k x.id lost.1 (served_begins set start x p ms w)) lost.2

pub returns-in-Lost-clause-waits : goal.returns-in-Lost-clause-waits
returns-in-Lost-clause-waits c = λ conflict due. c.end_lost.ensures.waits

pub returns-in-Again-clause-comes : goal.returns-in-Again-clause-comes
returns-in-Again-clause-comes c = λ conflict due isnt.
    let n = c.args.number in
    let is = ap (λ (call : OpenCall). call.wave) c.again.ensures.made in
    subst (λ r. OnOk c.go_on.result (ComesOfRound r n conflict c.args.call.wave c.go_on.new.self.due)) (sym c.in-Again.is)
    (on_ok c.go_on.result (ComesOf c.again.new.self.wave c.go_on.new.self.due) (ComesOf (first_changed (conflicts_at n) goes_again c.args.call.wave) c.go_on.new.self.due)
    (λ comes. subst (λ (ms : List Message). ComesOf ms c.go_on.new.self.due) is comes) (c.go_on.ensures.comes (ap (λ (call : OpenCall). goes_by_sequence call.purpose) c.again.ensures.made ∙ isnt)))

pub returns-in-Refused-clause-comes : goal.returns-in-Refused-clause-comes
returns-in-Refused-clause-comes c = λ conflict due isnt.
    subst (λ r. OnOk c.refuse.result (ComesOfRound r c.args.number conflict c.args.call.wave c.refuse.new.self.due)) (sym c.in-Refused.is)
    (each_ok c.refuse.result (λ (holder : TxnId). holder_in conflict ≡ Some holder) (λ holder. c.refuse.new.self.due ≡ dues.Tell (answers.Blocked holder)) (λ holder is. c.refuse.ensures.comes c.args.number conflict holder due isnt is))

pub returns-in-Lost-clause-comes : goal.returns-in-Lost-clause-comes
returns-in-Lost-clause-comes c = λ conflict due isnt.
    subst (λ r. OnOk c.end_lost.result (ComesOfRound r c.args.number conflict c.args.call.wave c.end_lost.new.self.due)) (sym c.in-Lost.is) (c.end_lost.ensures.comes c.args.call.wave)

pub returns-in-Again-clause-left : goal.returns-in-Again-clause-left
returns-in-Again-clause-left c = c.go_on.ensures.left

pub returns-in-Again-clause-idle : goal.returns-in-Again-clause-idle
returns-in-Again-clause-idle c = λ conflict due.
    c.go_on.ensures.idle (λ n. c.again.ensures.awaited conflict n due)
    (λ due2. again_unanswered c.args.number conflict c.args.call.wave due (ap step_of (sym (ap (λ (n : OpenCall). n.wave) c.again.ensures.made)) ∙ due2))

pub returns-in-Refused-clause-left : goal.returns-in-Refused-clause-left
returns-in-Refused-clause-left c = c.refuse.ensures.left

pub returns-in-Refused-clause-idle : goal.returns-in-Refused-clause-idle
returns-in-Refused-clause-idle c = λ conflict due. c.refuse.ensures.idle

pub returns-in-Lost-clause-left : goal.returns-in-Lost-clause-left
returns-in-Lost-clause-left c = c.end_lost.ensures.left

pub returns-in-Lost-clause-idle : goal.returns-in-Lost-clause-idle
returns-in-Lost-clause-idle c = λ conflict due. c.end_lost.ensures.idle

pub returns-in-Again-clause-used_up : goal.returns-in-Again-clause-used_up
returns-in-Again-clause-used_up c = λ faults is. let e : rounds.Again ≡ rounds.Lost faults = sym c.in-Again.is ∙ is in absurd cc

pub returns-in-Refused-clause-used_up : goal.returns-in-Refused-clause-used_up
returns-in-Refused-clause-used_up c = λ faults is. let e : rounds.Refused ≡ rounds.Lost faults = sym c.in-Refused.is ∙ is in absurd cc

pub returns-in-Lost-clause-used_up : goal.returns-in-Lost-clause-used_up
returns-in-Lost-clause-used_up c = λ faults is.
    subst (λ n. OnOk c.end_lost.result (c.end_lost.new.self.due ≡ dues.Tell (answer_lost n c.args.txn c.args.call.purpose))) (same_faults c.in-Lost.faults faults (sym c.in-Lost.is ∙ is)) c.end_lost.ensures.used_up
