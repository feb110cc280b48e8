use Rattle.std.proofs.Common.{◌≡◌, true, false, Some, refl, sym, ap, ◌∙◌, subst}
use Rattle.pc_call.specs.Giving.{MayBlockIt}
use Rattle.pc_coord.proofs.Coming.{told_comes}
use Rattle.pc_coord.proofs.Dues.{blocked_idle}
use Rattle.pc_coord.proofs.Ending.{waits_idle}
use Rattle.pc_coord.proofs.Knowing.{served_begins}
use Rattle.pc_coord.proofs.Leaving.{blocks_open}
use Rattle.pc_coord.proofs.Tying.{tell_ok, told_outbox}
use Rattle.pc_coord.specs.Coming.{goes_by_sequence}
use Rattle.pc_coord.specs.Coordination.{Coordination, setting_of}
use Rattle.pc_proto.specs.declared.answer.Answer.TheVariants as answers
use Rattle.pc_coord.proofs.Joining.{same_left, told_idle}
use Rattle.pc_coord.proofs.coordinator.Coordinator.end_blocked.Goals as goal

pub returns-in-Stage-clause-knows : goal.returns-in-Stage-clause-knows
returns-in-Stage-clause-knows c = λ loses k r w a may due.
    let s = c.args.self.now in
    let set = setting_of loses s in
    c.stage_blocked.ensures.knows loses k c.in-Stage.refusals r (subst (λ p. MayBlockIt s.session set k c.args.txn p c.args.call.wave c.args.holder) c.in-Stage.is may) a (λ n. blocked_idle n c.args.call.wave c.args.holder due) c.in-Stage.is

pub returns-in-Stage-clause-comes : goal.returns-in-Stage-clause-comes
returns-in-Stage-clause-comes c = λ due isnt. let e : true ≡ false = sym (ap goes_by_sequence c.in-Stage.is) ∙ isnt in absurd cc

pub returns-in_default-clause-knows : goal.returns-in_default-clause-knows
returns-in_default-clause-knows c = λ loses k r w a may due.
    let s = c.args.self.now in
    let set = setting_of loses s in
    let x = c.args.txn in
    let p = c.args.call.purpose in
    let ms = c.args.call.wave in
    tell_ok loses s c.tell.new.self k (answers.Blocked c.args.holder) x c.tell.ensures r (blocks_open s.session set k x p ms c.args.holder c.in_default.not-Stage may)
    (waits_idle set k x x p ms s.pipelining s.later (answers.Blocked c.args.holder) w a (λ n. blocked_idle n ms c.args.holder due) tt ((λ anchor. refl), (λ f there. there)))
    (served_begins set k x p ms w)

pub returns-in_default-clause-waits : goal.returns-in_default-clause-waits
returns-in_default-clause-waits c = told_outbox c.tell.new.self c.args.self.now.later (answers.Blocked c.args.holder) (ap (λ (n : Coordination). n.due) c.tell.ensures)

pub returns-in_default-clause-comes : goal.returns-in_default-clause-comes
returns-in_default-clause-comes c = λ due isnt. told_comes c.args.call.wave c.tell.new.self c.args.self.now (answers.Blocked c.args.holder) (Some c.args.txn) c.args.self.now.job c.tell.ensures due

pub returns-in-Stage-clause-left : goal.returns-in-Stage-clause-left
returns-in-Stage-clause-left c = c.stage_blocked.ensures.left

pub returns-in-Stage-clause-idle : goal.returns-in-Stage-clause-idle
returns-in-Stage-clause-idle c = c.stage_blocked.ensures.idle

pub returns-in_default-clause-left : goal.returns-in_default-clause-left
returns-in_default-clause-left c = same_left c.args.self.now.later c.tell.new.self.later (ap (λ (n : Coordination). n.later) c.tell.ensures)

pub returns-in_default-clause-idle : goal.returns-in_default-clause-idle
returns-in_default-clause-idle c = told_idle c.tell.new.self (answers.Blocked c.args.holder) (ap (λ (n : Coordination). n.due) c.tell.ensures)
