use Rattle.std.proofs.Common.{List, sym, ap, ◌∙◌, subst}
use Rattle.pc_call.specs.Learned.{known_heard}
use Rattle.pc_call.specs.Opening.{GoesOn}
use Rattle.pc_coord.proofs.Ending.{heard_aside}
use Rattle.pc_coord.proofs.Onward.{many_heard}
use Rattle.pc_coord.proofs.Steps.{on_ok}
use Rattle.pc_coord.specs.Aside.{KeepsAside}
use Rattle.pc_coord.specs.Coordination.{setting_of}
use Rattle.pc_coord.specs.Going.{HearsNow, IsForMany}
use Rattle.pc_wave.specs.Messages.{step_of, wave_awaits}
use Rattle.pc_call.specs.declared.call.OpenCall.{OpenCall}
use Rattle.pc_coord.specs.Coming.{AwaitsBy, ComesOf, goes_by_sequence}
use Rattle.pc_wave.specs.declared.message.Message.{Message}
use Rattle.pc_wave.specs.Messages.{awaits_at, back_with, first_changed}
use Rattle.pc_coord.proofs.Joining.{goes_as}
use Rattle.pc_coord.proofs.coordinator.Coordinator.come_back.Goals as goal

pub returns-clause-knows : goal.returns-clause-knows
returns-clause-knows c = λ loses k h is0 goes.
    let s = c.args.self.now in
    let set = setting_of loses s in
    let call = c.args.call in
    let told = c.in_ok-told.told in
    let k2 = known_heard h k in
    let goes2 = subst (GoesOn call.purpose) (sym c.in_ok-told.ensures) goes in
    let is = subst (λ r. HearsNow loses s call c.args.txn c.args.number r k h) (sym c.in_ok-told.ensures) is0 in
    let w = c.heard.ensures.stands s.session is.before s.begun set k c.args.txn h is.counted is.in_call is.waited is.heard goes2 is.whole in
    let a = subst (λ (n : OpenCall). KeepsAside loses s.pipelining k2 c.args.txn n.purpose s.later n.wave) (sym c.heard.ensures.made) (heard_aside loses s call c.args.txn c.args.number told k h is) in
    c.go_on.ensures.knows loses k2 is.ready w a (λ due.
    subst IsForMany (sym (ap (λ (n : OpenCall). n.purpose) c.heard.ensures.made)) (many_heard call.purpose c.args.number told call.wave goes2 is.waited (ap step_of (sym (ap (λ (n : OpenCall). n.wave) c.heard.ensures.made)) ∙ due)))

pub returns-clause-waits : goal.returns-clause-waits
returns-clause-waits c =
    let n = c.args.number in
    let is = ap (λ (call : OpenCall). call.wave) c.heard.ensures.made ∙ ap (λ r. first_changed (awaits_at n) (back_with n r) c.args.call.wave) c.in_ok-told.ensures in
    on_ok c.go_on.result (AwaitsBy c.heard.new.self.wave c.args.self.now.later c.go_on.new.self.due) (AwaitsBy (first_changed (awaits_at n) (back_with n c.args.reply.now) c.args.call.wave) c.args.self.now.later c.go_on.new.self.due)
    (λ waits. subst (λ (ms : List Message). AwaitsBy ms c.args.self.now.later c.go_on.new.self.due) is waits) c.go_on.ensures.waits

pub returns-clause-comes : goal.returns-clause-comes
returns-clause-comes c = λ isnt.
    let n = c.args.number in
    let is = ap (λ (call : OpenCall). call.wave) c.heard.ensures.made ∙ ap (λ r. first_changed (awaits_at n) (back_with n r) c.args.call.wave) c.in_ok-told.ensures in
    on_ok c.go_on.result (ComesOf c.heard.new.self.wave c.go_on.new.self.due) (ComesOf (first_changed (awaits_at n) (back_with n c.args.reply.now) c.args.call.wave) c.go_on.new.self.due)
    (λ comes. subst (λ (ms : List Message). ComesOf ms c.go_on.new.self.due) is comes) (c.go_on.ensures.comes (ap (λ (call : OpenCall). goes_by_sequence call.purpose) c.heard.ensures.made ∙ isnt))

pub returns-clause-left : goal.returns-clause-left
returns-clause-left c = c.go_on.ensures.left

pub returns-clause-joins : goal.returns-clause-joins
returns-clause-joins c = λ loses k h is0 goes.
    let s = c.args.self.now in
    let set = setting_of loses s in
    let call = c.args.call in
    let told = c.in_ok-told.told in
    let k2 = known_heard h k in
    let goes2 = subst (GoesOn call.purpose) (sym c.in_ok-told.ensures) goes in
    let is = subst (λ r. HearsNow loses s call c.args.txn c.args.number r k h) (sym c.in_ok-told.ensures) is0 in
    let w = c.heard.ensures.stands s.session is.before s.begun set k c.args.txn h is.counted is.in_call is.waited is.heard goes2 is.whole in
    let a = subst (λ (n : OpenCall). KeepsAside loses s.pipelining k2 c.args.txn n.purpose s.later n.wave) (sym c.heard.ensures.made) (heard_aside loses s call c.args.txn c.args.number told k h is) in
    c.go_on.ensures.joins set k2 w a

pub returns-clause-goes_on : goal.returns-clause-goes_on
returns-clause-goes_on c = λ other waits.
    let n = c.args.number in
    let is = ap (λ (call : OpenCall). call.wave) c.heard.ensures.made ∙ ap (λ r. first_changed (awaits_at n) (back_with n r) c.args.call.wave) c.in_ok-told.ensures in
    goes_as c.go_on.result c.heard.new.self.wave (first_changed (awaits_at c.args.number) (back_with c.args.number c.args.reply.now) c.args.call.wave) c.go_on.new.self.due is (c.go_on.ensures.goes_on other (ap (wave_awaits other) is ∙ waits))
