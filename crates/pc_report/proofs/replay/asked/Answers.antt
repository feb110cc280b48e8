use Rattle.std.proofs.Common.{None, Some, sym, ap, ◌∙◌}
use Rattle.std.specs.Option.{option_copied}
use Rattle.pc_report.proofs.Naming.{asked_other, asked_sent}
use Rattle.pc_report.proofs.replay.asked.Goals as goal

pub returns-in_default : goal.returns-in_default
returns-in_default c = sym (asked_other c.args.before.now c.args.event.now (λ actor number reply is. c.in_default.not-Eval actor number reply is))

pub returns-in_err-entry : goal.returns-in_err-entry
returns-in_err-entry c =
    ap option_copied c.from_residual.ensures
    ∙ asked_sent c.args.before.now c.args.event.now c.in-Eval.actor c.in-Eval.number c.in-Eval.reply c.in-Eval.is None (sym (ap option_copied c.in_err-entry.was) ∙ c.entry.ensures c.requires)

pub returns : goal.returns
returns c =
    c.request_of.ensures
    ∙ asked_sent c.args.before.now c.args.event.now c.in-Eval.actor c.in-Eval.number c.in-Eval.reply c.in-Eval.is (Some c.in_ok-entry.entry.now) (sym (ap option_copied c.in_ok-entry.was) ∙ c.entry.ensures c.requires)
