use Rattle.std.proofs.Common.{◌≡◌, true, sym, ap, ◌∙◌, subst, inl, refl, Ok, OnOk, false}
use Rattle.pc_base.specs.declared.memory.NoMemory.{NoMemory}
use Rattle.pc_call.proofs.Sending.{step_given}
use Rattle.pc_call.specs.Losses.{is_lost_after}
use Rattle.pc_coord.proofs.Coming.{called_comes}
use Rattle.pc_coord.proofs.Dues.{answered_idle, blocked_idle}
use Rattle.pc_coord.proofs.Ending.{lost_idle}
use Rattle.pc_coord.proofs.Tying.{call_ok, on_by, on_way, same_by}
use Rattle.pc_coord.specs.Coordination.{Coordination, setting_of}
use Rattle.pc_coord.specs.Knows.{is_under_way}
use Rattle.pc_coord.proofs.Joining.{call_goes, call_idle, joins_ok, no_wait, same_joins, same_left}
use Rattle.pc_call.proofs.Faults.{call_gives_up}
use Rattle.pc_coord.proofs.Aside.{aside_idle}
use Rattle.pc_coord.proofs.Knowing.{served_begins}
use Rattle.pc_coord.proofs.Lost.{call_was_lost, lossy, stays_beside}
use Rattle.pc_wave.proofs.States.{due_answered, due_blocked}
use Rattle.pc_wave.specs.Messages.{step_of}
use Rattle.pc_wave.specs.declared.step.Step.TheVariants as steps
use Rattle.pc_world.specs.Tell.Refusal.{WasLost}
use Rattle.pc_coord.proofs.coordinator.Coordinator.go_on.Goals as goal
use Rattle.pc_coord.proofs.UsedUp.{lost_ends, lost_on, lost_over}
use Rattle.pc_coord.specs.UsedUp.{answer_lost}
use Rattle.pc_coord.specs.Coming.{GoesOnBy}
use Rattle.pc_coord.specs.declared.due.Due.TheVariants as dues

pub returns-then-is_lost-clause-knows : goal.returns-then-is_lost-clause-knows
returns-then-is_lost-clause-knows c = λ loses k r w a many.
    let s = c.args.self.now in
    let set = setting_of loses s in
    let x = c.args.txn in
    let p = c.args.call.purpose in
    let ms = c.args.call.wave in
    let used = ap (λ (n : Coordination). is_lost_after n.tries ms) (sym c.self.view_is) ∙ (sym c.is_lost.ensures ∙ c.if-is_lost.true) in
    let loss = lossy set k x p ms s.tries w r.course.tried used in
    c.end_lost-then-is_lost.ensures.knows loses k k r loss (λ why is. w) (λ isnt. call_gives_up set k x p ms w isnt) (aside_idle s.pipelining k x p s.later ms a (lost_idle s.tries ms used)) (stays_beside k x.id) (served_begins set k x p ms w)
    (subst (λ (n : Coordination). WasLost k n.tries) (sym c.end_lost.view_is) (call_was_lost set k x p ms w s.tries loss r.course.tried used (r.course.one_range loss)))

pub returns-then-is_lost-clause-waits : goal.returns-then-is_lost-clause-waits
returns-then-is_lost-clause-waits c =
    on_by c.end_lost-then-is_lost.result c.args.call.wave c.args.self.now.later c.end_lost-then-is_lost.new.self.due (lost_idle c.args.self.now.tries c.args.call.wave (ap (λ (n : Coordination). is_lost_after n.tries c.args.call.wave) (sym c.self.view_is) ∙ (sym c.is_lost.ensures ∙ c.if-is_lost.true))) c.end_lost-then-is_lost.ensures.waits

pub returns-then-is_lost-clause-comes : goal.returns-then-is_lost-clause-comes
returns-then-is_lost-clause-comes c = λ isnt. c.end_lost-then-is_lost.ensures.comes c.args.call.wave

pub returns-in-Answered-clause-knows : goal.returns-in-Answered-clause-knows
returns-in-Answered-clause-knows c = λ loses k r w a many.
    let due = due_answered (step_of c.args.call.wave) (sym c.state.ensures ∙ c.in-Answered.is) in
    c.end.ensures.knows loses k r w a due (many due)

pub returns-in-Answered-clause-waits : goal.returns-in-Answered-clause-waits
returns-in-Answered-clause-waits c =
    let due = due_answered (step_of c.args.call.wave) (sym c.state.ensures ∙ c.in-Answered.is) in
    on_by c.end.result c.args.call.wave c.args.self.now.later c.end.new.self.due (λ n. answered_idle n c.args.call.wave due) c.end.ensures.waits

pub returns-in-Answered-clause-comes : goal.returns-in-Answered-clause-comes
returns-in-Answered-clause-comes c = λ isnt. c.end.ensures.comes (due_answered (step_of c.args.call.wave) (sym c.state.ensures ∙ c.in-Answered.is)) isnt

pub returns-in-Blocked-clause-knows : goal.returns-in-Blocked-clause-knows
returns-in-Blocked-clause-knows c = λ loses k r w a many.
    let s = c.args.self.now in
    let set = setting_of loses s in
    let due = due_blocked (step_of c.args.call.wave) c.in-Blocked.holder (sym c.state.ensures ∙ c.in-Blocked.is) in
    c.end_blocked.ensures.knows loses k r w a
    (step_given s.session s.clock s.begun set k c.args.txn c.args.call.purpose c.args.call.wave r.counted w {E = NoMemory} (Ok (steps.Blocked c.in-Blocked.holder)) (sym due))
    due

pub returns-in-Blocked-clause-waits : goal.returns-in-Blocked-clause-waits
returns-in-Blocked-clause-waits c =
    let due = due_blocked (step_of c.args.call.wave) c.in-Blocked.holder (sym c.state.ensures ∙ c.in-Blocked.is) in
    on_by c.end_blocked.result c.args.call.wave c.args.self.now.later c.end_blocked.new.self.due (λ n. blocked_idle n c.args.call.wave c.in-Blocked.holder due) c.end_blocked.ensures.waits

pub returns-in-Blocked-clause-comes : goal.returns-in-Blocked-clause-comes
returns-in-Blocked-clause-comes c = λ isnt. c.end_blocked.ensures.comes (due_blocked (step_of c.args.call.wave) c.in-Blocked.holder (sym c.state.ensures ∙ c.in-Blocked.is)) isnt

pub returns-in-UnderWay-clause-knows : goal.returns-in-UnderWay-clause-knows
returns-in-UnderWay-clause-knows c = λ loses k r w a many.
    call_ok loses c.args.self.now c.call.new.self k c.args.call c.args.txn c.call.ensures r w a (on_way (step_of c.args.call.wave) (sym c.state.ensures ∙ c.in-UnderWay.is))

pub returns-in-UnderWay-clause-waits : goal.returns-in-UnderWay-clause-waits
returns-in-UnderWay-clause-waits c = same_by c.call.new.self c.args.call.wave c.args.self.now.later c.args.call (ap (λ (n : Coordination). n.due) c.call.ensures) refl

pub returns-in-UnderWay-clause-comes : goal.returns-in-UnderWay-clause-comes
returns-in-UnderWay-clause-comes c = λ isnt. called_comes c.args.call.wave c.call.new.self c.args.self.now c.args.call c.args.txn c.call.ensures (inl refl)

pub returns-then-is_lost-clause-left : goal.returns-then-is_lost-clause-left
returns-then-is_lost-clause-left c = c.end_lost-then-is_lost.ensures.left

pub returns-then-is_lost-clause-idle : goal.returns-then-is_lost-clause-idle
returns-then-is_lost-clause-idle c = λ idle isnt. c.end_lost-then-is_lost.ensures.idle

pub returns-then-is_lost-clause-joins : goal.returns-then-is_lost-clause-joins
returns-then-is_lost-clause-joins c = λ set k w a. joins_ok c.end_lost-then-is_lost.result c.args.self.now.later c.end_lost-then-is_lost.new.self.due c.end_lost-then-is_lost.ensures.idle

pub returns-then-is_lost-clause-goes_on : goal.returns-then-is_lost-clause-goes_on
returns-then-is_lost-clause-goes_on c = λ number waits. absurd (no_wait number c.args.call.wave waits (lost_idle c.args.self.now.tries c.args.call.wave (ap (λ (n : Coordination). is_lost_after n.tries c.args.call.wave) (sym c.self.view_is) ∙ (sym c.is_lost.ensures ∙ c.if-is_lost.true)) number))

pub returns-in-Answered-clause-left : goal.returns-in-Answered-clause-left
returns-in-Answered-clause-left c = c.end.ensures.left

pub returns-in-Answered-clause-idle : goal.returns-in-Answered-clause-idle
returns-in-Answered-clause-idle c = λ idle isnt. absurd (isnt (due_answered (step_of c.args.call.wave) (sym c.state.ensures ∙ c.in-Answered.is)))

pub returns-in-Answered-clause-joins : goal.returns-in-Answered-clause-joins
returns-in-Answered-clause-joins c = λ set k w a. c.end.ensures.joins

pub returns-in-Answered-clause-goes_on : goal.returns-in-Answered-clause-goes_on
returns-in-Answered-clause-goes_on c = λ number waits. absurd (no_wait number c.args.call.wave waits (answered_idle number c.args.call.wave (due_answered (step_of c.args.call.wave) (sym c.state.ensures ∙ c.in-Answered.is))))

pub returns-in-Blocked-clause-left : goal.returns-in-Blocked-clause-left
returns-in-Blocked-clause-left c = c.end_blocked.ensures.left

pub returns-in-Blocked-clause-idle : goal.returns-in-Blocked-clause-idle
returns-in-Blocked-clause-idle c = λ idle isnt. c.end_blocked.ensures.idle

pub returns-in-Blocked-clause-joins : goal.returns-in-Blocked-clause-joins
returns-in-Blocked-clause-joins c = λ set k w a. joins_ok c.end_blocked.result c.args.self.now.later c.end_blocked.new.self.due c.end_blocked.ensures.idle

pub returns-in-Blocked-clause-goes_on : goal.returns-in-Blocked-clause-goes_on
returns-in-Blocked-clause-goes_on c = λ number waits. absurd (no_wait number c.args.call.wave waits (blocked_idle number c.args.call.wave c.in-Blocked.holder (due_blocked (step_of c.args.call.wave) c.in-Blocked.holder (sym c.state.ensures ∙ c.in-Blocked.is))))

pub returns-in-UnderWay-clause-left : goal.returns-in-UnderWay-clause-left
returns-in-UnderWay-clause-left c = same_left c.args.self.now.later c.call.new.self.later (ap (λ (n : Coordination). n.later) c.call.ensures)

pub returns-in-UnderWay-clause-idle : goal.returns-in-UnderWay-clause-idle
returns-in-UnderWay-clause-idle c = λ idle isnt. call_idle c.call.new.self c.args.call (ap (λ (n : Coordination). n.due) c.call.ensures) idle

pub returns-in-UnderWay-clause-joins : goal.returns-in-UnderWay-clause-joins
returns-in-UnderWay-clause-joins c = λ set k w a. same_joins set k c.args.txn c.args.call.purpose c.args.call.wave w c.args.self.now.pipelining c.args.self.now.later a c.call.new.self c.args.call (ap (λ (n : Coordination). n.due) c.call.ensures) refl

pub returns-in-UnderWay-clause-goes_on : goal.returns-in-UnderWay-clause-goes_on
returns-in-UnderWay-clause-goes_on c = λ number waits. call_goes c.call.new.self c.args.call c.args.call.wave (ap (λ (n : Coordination). n.due) c.call.ensures) refl

pub returns-then-is_lost-clause-used_up : goal.returns-then-is_lost-clause-used_up
returns-then-is_lost-clause-used_up c =
    let s = c.args.self.now in
    let call = c.args.call in
    lost_ends c.end_lost-then-is_lost.result s.tries c.args.txn call.purpose call.wave c.end_lost-then-is_lost.new.self.due (ap (λ (n : Coordination). is_lost_after n.tries c.args.call.wave) (sym c.self.view_is) ∙ (sym c.is_lost.ensures ∙ c.if-is_lost.true))
    (subst (λ (n : Coordination). OnOk c.end_lost-then-is_lost.result (c.end_lost-then-is_lost.new.self.due ≡ dues.Tell (answer_lost n.tries c.args.txn call.purpose))) c.end_lost.view_is c.end_lost-then-is_lost.ensures.used_up)

pub returns-in-Answered-clause-used_up : goal.returns-in-Answered-clause-used_up
returns-in-Answered-clause-used_up c =
    let s = c.args.self.now in
    let call = c.args.call in
    lost_over c.end.result s.tries c.args.txn call.purpose call.wave c.end.new.self.due (ap (λ (n : Coordination). is_lost_after n.tries c.args.call.wave) (sym c.self.view_is) ∙ (sym c.is_lost.ensures ∙ c.if-is_lost.false)) (λ on. subst is_under_way (due_answered (step_of c.args.call.wave) (sym c.state.ensures ∙ c.in-Answered.is)) on)

pub returns-in-Blocked-clause-used_up : goal.returns-in-Blocked-clause-used_up
returns-in-Blocked-clause-used_up c =
    let s = c.args.self.now in
    let call = c.args.call in
    lost_over c.end_blocked.result s.tries c.args.txn call.purpose call.wave c.end_blocked.new.self.due (ap (λ (n : Coordination). is_lost_after n.tries c.args.call.wave) (sym c.self.view_is) ∙ (sym c.is_lost.ensures ∙ c.if-is_lost.false)) (λ on. subst is_under_way (due_blocked (step_of c.args.call.wave) c.in-Blocked.holder (sym c.state.ensures ∙ c.in-Blocked.is)) on)

pub returns-in-UnderWay-clause-used_up : goal.returns-in-UnderWay-clause-used_up
returns-in-UnderWay-clause-used_up c =
    let s = c.args.self.now in
    let call = c.args.call in
    lost_on s.tries c.args.txn call.purpose call.wave c.call.new.self.due (ap (λ (n : Coordination). is_lost_after n.tries c.args.call.wave) (sym c.self.view_is) ∙ (sym c.is_lost.ensures ∙ c.if-is_lost.false)) (subst (GoesOnBy call.wave) (sym (ap (λ (n : Coordination). n.due) c.call.ensures)) refl)
