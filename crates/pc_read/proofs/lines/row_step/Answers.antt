use Rattle.std.proofs.Common.{Some, sym, ap, ◌∙◌}
use Rattle.pc_read.proofs.Steps.{row_bad, row_ended, row_kept}
use Rattle.pc_read.proofs.lines.row_step.Goals as goal

pub returns-then-is-clause-takes : goal.returns-then-is-clause-takes
returns-then-is-clause-takes c =
    ap Some (sym (row_ended c.args.line c.args.rest.now c.in-Some.text.now c.in-Some.behind.now (sym c.in-Some.ensures) (sym c.is.ensures ∙ c.if-is.true)))

pub returns-then-is_report_row-clause-takes : goal.returns-then-is_report_row-clause-takes
returns-then-is_report_row-clause-takes c =
    ap Some (sym (row_kept c.args.line c.args.rest.now c.in-Some.text.now c.in-Some.behind.now (sym c.in-Some.ensures) (sym c.is.ensures ∙ c.if-is.false) (sym c.is_report_row.ensures ∙ c.if-is_report_row.true)))

pub returns-else-is_report_row-clause-takes : goal.returns-else-is_report_row-clause-takes
returns-else-is_report_row-clause-takes c =
    c.refuse-else-is_report_row.ensures.takes ∙ ap Some (sym (row_bad c.args.line c.args.rest.now c.in-Some.text.now c.in-Some.behind.now (sym c.in-Some.ensures) (sym c.is.ensures ∙ c.if-is.false) (sym c.is_report_row.ensures ∙ c.if-is_report_row.false)))
