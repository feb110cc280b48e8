use Rattle.std.proofs.Common.{Some, sym, ap, ◌∙◌}
use Rattle.pc_read.proofs.Steps.{entry_bad, entry_kept, entry_reported}
use Rattle.pc_read.proofs.lines.entry_step.Goals as goal

pub returns-then-is-clause-takes : goal.returns-then-is-clause-takes
returns-then-is-clause-takes c =
    ap Some (sym (entry_reported c.args.line c.args.rest.now c.in-Some.text.now c.in-Some.behind.now (sym c.in-Some.ensures) (sym c.is.ensures ∙ c.if-is.true)))

pub returns-in-Some-entry-clause-takes : goal.returns-in-Some-entry-clause-takes
returns-in-Some-entry-clause-takes c =
    entry_kept c.args.line c.in-Some-entry.entry.line c.args.rest.now c.in-Some.text.now c.in-Some.behind.now _ (sym c.in-Some.ensures) (sym c.is.ensures ∙ c.if-is.false) c.in-Some-entry.ensures.value.0 c.in-Some-entry.ensures.value.1 c.in-Some-entry.ensures.line

pub returns-in-None-clause-takes : goal.returns-in-None-clause-takes
returns-in-None-clause-takes c =
    c.refuse-in-None.ensures.takes ∙ ap Some (sym (entry_bad c.args.line c.args.rest.now c.in-Some.text.now c.in-Some.behind.now (sym c.in-Some.ensures) (sym c.is.ensures ∙ c.if-is.false) c.in-None.ensures.value))
