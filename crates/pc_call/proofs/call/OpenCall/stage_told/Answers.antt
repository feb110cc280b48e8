use Rattle.std.proofs.Common.{sym, ap, ◌∙◌}
use Rattle.pc_call.proofs.StageTelling.{told_refused, told_staged}
use Rattle.pc_call.specs.Stages.{stage_ts}
use Rattle.pc_call.proofs.call.OpenCall.stage_told.Goals as goal

pub returns-then-is_staged_at-clause-stands : goal.returns-then-is_staged_at-clause-stands
returns-then-is_staged_at-clause-stands c = λ session clock begun n set k h counted w e waited is undecided first_out at.
    told_staged session clock begun set k c.args.txn.now c.args.self.now.purpose c.args.self.now.wave counted w c.args.number h waited n e c.args.recorded c.args.step at c.stage_ts-ts.result (c.stage_ts-ts.ensures ∙ ap (stage_ts c.args.number) c.messages.ensures) c.tell_stage.new.txn c.args.reply is undecided
    c.tell_stage.ensures c.heard.new.self c.heard.ensures.made (sym c.is_staged_at.ensures ∙ c.if-is_staged_at.true)

pub returns-clause-stands : goal.returns-clause-stands
returns-clause-stands c = λ session clock begun n set k h counted w e waited is undecided first_out at.
    told_refused session clock begun set k c.args.txn.now c.args.self.now.purpose c.args.self.now.wave counted w c.args.number h waited n e c.args.recorded c.args.step at c.stage_ts-ts.result (c.stage_ts-ts.ensures ∙ ap (stage_ts c.args.number) c.messages.ensures) c.tell_stage.new.txn c.args.reply is undecided first_out
    c.tell_stage.ensures c.count_refusal.new.self (ap (λ call. call.wave) c.count_refusal.ensures ∙ c.heard.ensures.made) (ap (λ call. call.purpose) c.count_refusal.ensures) (sym c.is_staged_at.ensures ∙ c.if-is_staged_at.false)
