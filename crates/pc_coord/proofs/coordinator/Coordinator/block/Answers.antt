use Rattle.std.proofs.Common.{◌≡◌, None, Some, IfSome, refl, sym, ◌∙◌, subst, ap}
use Rattle.std.specs.Option.{option_map}
use Rattle.pc_call.proofs.PushRefused.{push_blocks}
use Rattle.pc_call.specs.Telling.{MayTellOpen}
use Rattle.pc_coord.proofs.Aside.{aside_idle}
use Rattle.pc_coord.proofs.Blocks.{asked_stage, beside_begins, blocked_as, blocked_stays, round_idle, split_beside, stage_held, stage_named, unstaged}
use Rattle.pc_coord.proofs.Ending.{wait_on}
use Rattle.pc_coord.proofs.Knowing.{served_begins}
use Rattle.pc_coord.proofs.Tying.{nothing_outbox, refused_holder, tell_ok, told_outbox}
use Rattle.pc_coord.specs.Coordination.{Coordination, setting_of}
use Rattle.pc_coord.specs.declared.due.Due.TheVariants as dues
use Rattle.pc_proto.specs.declared.answer.Answer.TheVariants as answers
use Rattle.pc_proto.specs.declared.answer.Answer.{Answer}
use Rattle.pc_proto.specs.Replies.{holder_in}
use Rattle.pc_coord.proofs.Joining.{nothing_idle, same_left, told_idle}
use Rattle.pc_coord.proofs.coordinator.Coordinator.block.Goals as goal

pub returns-in-Some-clause-knows : goal.returns-in-Some-clause-knows
returns-in-Some-clause-knows c = λ loses start k clock number r counted w a due refused.
    let s = c.args.self.now in
    let set = setting_of loses s in
    let x = c.args.txn in
    let is = sym c.stage_blocked_by.ensures ∙ c.in-Some.is in
    let n = asked_stage c.args.conflict.now c.in-Some.holder c.args.call.purpose is in
    c.stage_blocked.ensures.knows loses k n.0 r
    (push_blocks s.session clock s.begun set start k x c.args.call.purpose c.args.call.wave counted w number c.args.conflict.now due n.0 n.1 refused c.in-Some.holder (stage_named c.args.conflict.now c.in-Some.holder c.args.call.purpose is))
    a (λ other. round_idle other c.args.call.wave number c.args.conflict.now due) n.1

pub returns-in-Some-clause-comes : goal.returns-in-Some-clause-comes
returns-in-Some-clause-comes c = λ holder isnt is.
    absurd (stage_held c.args.conflict.now c.in-Some.holder c.args.call.purpose (sym c.stage_blocked_by.ensures ∙ c.in-Some.is) isnt)

pub returns-in-Some-clause-waits : goal.returns-in-Some-clause-waits
returns-in-Some-clause-waits c = c.stage_blocked.ensures.waits

pub returns-in-Some-answer-clause-knows : goal.returns-in-Some-answer-clause-knows
returns-in-Some-answer-clause-knows c = λ loses start k clock number r counted w a due refused.
    let s = c.args.self.now in
    let set = setting_of loses s in
    let x = c.args.txn in
    let p = c.args.call.purpose in
    let ms = c.args.call.wave in
    let conflict = c.args.conflict.now in
    let answer = c.in-Some-answer.answer in
    let plain = unstaged start k x.id conflict p refused (sym c.stage_blocked_by.ensures ∙ c.in_default.is) in
    let told = subst (λ o. IfSome o (λ (answer : Answer). MayTellOpen set s.session k answer x)) c.in-Some-answer.is (c.round_refused-answer.ensures.told s.session clock s.begun number set start k x counted w due refused plain) in
    tell_ok loses s c.tell.new.self k answer x c.tell.ensures r told
    (wait_on k x x s.later answer (split_beside start k x.id refused.beside w.split) (aside_idle s.pipelining k x p s.later ms a (λ n. round_idle n ms number conflict due))
    (blocked_stays (holder_in conflict) answer (sym c.round_refused-answer.ensures.blocked ∙ c.in-Some-answer.is)) ((λ anchor. refl), (λ f there. there)))
    (beside_begins start k x.id refused.beside (served_begins set start x p ms w))

pub returns-in-Some-answer-clause-waits : goal.returns-in-Some-answer-clause-waits
returns-in-Some-answer-clause-waits c = told_outbox c.tell.new.self c.args.self.now.later c.in-Some-answer.answer (ap (λ (n : Coordination). n.due) c.tell.ensures)

pub returns-in-Some-answer-clause-comes : goal.returns-in-Some-answer-clause-comes
returns-in-Some-answer-clause-comes c = λ holder isnt is.
    ap (λ (n : Coordination). n.due) c.tell.ensures ∙ ap dues.Tell (blocked_as (holder_in c.args.conflict.now) c.in-Some-answer.answer holder (sym c.round_refused-answer.ensures.blocked ∙ c.in-Some-answer.is) is)

pub returns-in-None-clause-knows : goal.returns-in-None-clause-knows
returns-in-None-clause-knows c = λ loses start k clock number r counted w a due refused.
    absurd (refused_holder start k c.args.txn.id c.args.conflict.now c.round_refused-answer.result refused c.in-None.is c.round_refused-answer.ensures.blocked)

pub returns-in-None-clause-comes : goal.returns-in-None-clause-comes
returns-in-None-clause-comes c = λ holder isnt is.
    let e : None ≡ Some (answers.Blocked holder) = sym c.in-None.is ∙ c.round_refused-answer.ensures.blocked ∙ ap (option_map answers.Blocked) is in absurd cc

pub returns-in-None-clause-waits : goal.returns-in-None-clause-waits
returns-in-None-clause-waits c = nothing_outbox c.told.new.self c.args.self.now.later (ap (λ (n : Coordination). n.due) c.told.ensures.made)

pub returns-in-Some-clause-left : goal.returns-in-Some-clause-left
returns-in-Some-clause-left c = c.stage_blocked.ensures.left

pub returns-in-Some-clause-idle : goal.returns-in-Some-clause-idle
returns-in-Some-clause-idle c = c.stage_blocked.ensures.idle

pub returns-in-Some-answer-clause-left : goal.returns-in-Some-answer-clause-left
returns-in-Some-answer-clause-left c = same_left c.args.self.now.later c.tell.new.self.later (ap (λ (n : Coordination). n.later) c.tell.ensures)

pub returns-in-Some-answer-clause-idle : goal.returns-in-Some-answer-clause-idle
returns-in-Some-answer-clause-idle c = told_idle c.tell.new.self c.in-Some-answer.answer (ap (λ (n : Coordination). n.due) c.tell.ensures)

pub returns-in-None-clause-left : goal.returns-in-None-clause-left
returns-in-None-clause-left c = same_left c.args.self.now.later c.told.new.self.later (ap (λ (n : Coordination). n.later) c.told.ensures.made)

pub returns-in-None-clause-idle : goal.returns-in-None-clause-idle
returns-in-None-clause-idle c = nothing_idle c.told.new.self (ap (λ (n : Coordination). n.due) c.told.ensures.made)
