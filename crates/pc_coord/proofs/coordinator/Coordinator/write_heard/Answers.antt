use Rattle.std.proofs.Common.{sym, ◌∙◌, subst, ap}
use Rattle.pc_call.specs.Opening.{GoesOn}
use Rattle.pc_coord.proofs.Coming.{written_none}
use Rattle.pc_coord.proofs.Ending.{alone_idle}
use Rattle.pc_coord.proofs.Onward.{alone, write_kind}
use Rattle.pc_coord.proofs.Tying.{on_by, put_met, written_reply}
use Rattle.pc_coord.specs.Coming.{goes_by_sequence}
use Rattle.pc_coord.specs.Coordination.{setting_of}
use Rattle.pc_coord.specs.Going.{HearsNow}
use Rattle.pc_call.specs.declared.purpose.Purpose.TheVariants as purposes
use Rattle.pc_proto.specs.Replies.{is_conflict}
use Rattle.pc_wave.specs.Messages.{awaits_at, back_with, first_changed}
use Rattle.pc_coord.proofs.Joining.{joins_ok}
use Rattle.pc_coord.proofs.coordinator.Coordinator.write_heard.Goals as goal

pub returns-in-Some-clause-knows : goal.returns-in-Some-clause-knows
returns-in-Some-clause-knows c = λ loses k h is writes at.
    let same = written_reply c.args.reply.now c.in-Some.ts (sym c.written_at-written.ensures ∙ c.in-Some.is) in
    c.written.ensures.knows loses k h c.args.number (subst (λ r. HearsNow loses c.args.self.now c.args.call c.args.txn c.args.number r k h) same is) writes at

pub returns-in-Some-clause-waits : goal.returns-in-Some-clause-waits
returns-in-Some-clause-waits c = λ loses k h is writes.
    let s = c.args.self.now in
    let m = alone (setting_of loses s) k c.args.txn c.args.call.purpose c.args.call.wave is.in_call purposes.Write writes tt in
    on_by c.written.result (first_changed (awaits_at c.args.number) (back_with c.args.number c.args.reply.now) c.args.call.wave) s.later c.written.new.self.due
    (alone_idle loses s c.args.call c.args.txn c.args.number c.args.reply.now k h is m.0 m.1) c.written.ensures.waits

pub returns-in-None-clause-knows : goal.returns-in-None-clause-knows
returns-in-None-clause-knows c = λ loses k h is writes at.
    let none = sym c.written_at-written.ensures ∙ c.in-None.is in
    c.come_back.ensures.knows loses k h is (subst (λ p. GoesOn p c.args.reply.now) (sym writes) (put_met c.args.txn.id c.args.reply.now (write_kind loses c.args.self.now c.args.call c.args.txn c.args.number c.args.reply.now k h is writes) none))

pub returns-in-None-clause-waits : goal.returns-in-None-clause-waits
returns-in-None-clause-waits c = λ loses k h is writes. c.come_back.ensures.waits

pub returns-in-Some-clause-comes : goal.returns-in-Some-clause-comes
returns-in-Some-clause-comes c = λ loses k h is writes.
    let same = written_reply c.args.reply.now c.in-Some.ts (sym c.written_at-written.ensures ∙ c.in-Some.is) in
    c.written.ensures.comes (first_changed (awaits_at c.args.number) (back_with c.args.number c.args.reply.now) c.args.call.wave)
    (written_none loses c.args.self.now c.args.call c.args.txn c.args.number c.args.reply.now k h is writes (ap is_conflict same))

pub returns-in-None-clause-comes : goal.returns-in-None-clause-comes
returns-in-None-clause-comes c = λ loses k h is writes. c.come_back.ensures.comes (ap goes_by_sequence writes)

pub returns-in-Some-clause-left : goal.returns-in-Some-clause-left
returns-in-Some-clause-left c = c.written.ensures.left

pub returns-in-None-clause-left : goal.returns-in-None-clause-left
returns-in-None-clause-left c = c.come_back.ensures.left

pub returns-in-Some-clause-joins : goal.returns-in-Some-clause-joins
returns-in-Some-clause-joins c = λ loses k h is writes. joins_ok c.written.result c.args.self.now.later c.written.new.self.due c.written.ensures.idle

pub returns-in-None-clause-joins : goal.returns-in-None-clause-joins
returns-in-None-clause-joins c = λ loses k h is writes.
    let none = sym c.written_at-written.ensures ∙ c.in-None.is in
    c.come_back.ensures.joins loses k h is (subst (λ p. GoesOn p c.args.reply.now) (sym writes) (put_met c.args.txn.id c.args.reply.now (write_kind loses c.args.self.now c.args.call c.args.txn c.args.number c.args.reply.now k h is writes) none))
