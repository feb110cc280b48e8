use Rattle.std.proofs.Common.{sym, ◌∙◌, subst}
use Rattle.pc_call.specs.Opening.{GoesOn}
use Rattle.pc_call.specs.Stages.{MayProve}
use Rattle.pc_coord.proofs.Onward.{proof_kind}
use Rattle.pc_coord.proofs.Tying.{put_met, written_reply}
use Rattle.pc_coord.proofs.coordinator.Coordinator.proof_heard.Goals as goal

pub returns-in-Some-clause-knows : goal.returns-in-Some-clause-knows
returns-in-Some-clause-knows c = λ loses k h kept all is proves at.
    c.proved.ensures.knows loses k h is (written_reply c.args.reply.now c.in-Some.ts (sym c.written_at-written.ensures ∙ c.in-Some.is)) (subst MayProve (sym proves) tt) at

pub returns-in-None-clause-knows : goal.returns-in-None-clause-knows
returns-in-None-clause-knows c = λ loses k h kept all is proves at.
    let none = sym c.written_at-written.ensures ∙ c.in-None.is in
    c.come_back.ensures.knows loses k h is (subst (λ p. GoesOn p c.args.reply.now) (sym proves) (put_met c.args.txn.id c.args.reply.now (proof_kind loses c.args.self.now c.args.call c.args.txn c.args.number c.args.reply.now k h is kept all proves) none))

pub returns-in-Some-clause-left : goal.returns-in-Some-clause-left
returns-in-Some-clause-left c = c.proved.ensures.left

pub returns-in-None-clause-left : goal.returns-in-None-clause-left
returns-in-None-clause-left c = c.come_back.ensures.left

pub returns-in-Some-clause-joins : goal.returns-in-Some-clause-joins
returns-in-Some-clause-joins c = λ loses k h kept all is proves at.
    c.proved.ensures.joins loses k h is (written_reply c.args.reply.now c.in-Some.ts (sym c.written_at-written.ensures ∙ c.in-Some.is)) (subst MayProve (sym proves) tt) at

pub returns-in-None-clause-joins : goal.returns-in-None-clause-joins
returns-in-None-clause-joins c = λ loses k h kept all is proves at.
    let none = sym c.written_at-written.ensures ∙ c.in-None.is in
    c.come_back.ensures.joins loses k h is (subst (λ p. GoesOn p c.args.reply.now) (sym proves) (put_met c.args.txn.id c.args.reply.now (proof_kind loses c.args.self.now c.args.call c.args.txn c.args.number c.args.reply.now k h is kept all proves) none))
