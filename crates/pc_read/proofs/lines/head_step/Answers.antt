use Rattle.std.proofs.Common.{Some, sym, ap, ◌∙◌}
use Rattle.pc_read.proofs.Steps.{head_bad, head_good}
use Rattle.pc_read.proofs.lines.head_step.Goals as goal

pub returns-then-is-clause-takes : goal.returns-then-is-clause-takes
returns-then-is-clause-takes c =
    c.second_step.ensures.takes ∙ ap Some (sym (head_good c.args.rest.now c.in-Some.text.now c.in-Some.behind.now (sym c.in-Some.ensures) (sym c.is.ensures ∙ c.if-is.true)))

pub returns-else-is-clause-takes : goal.returns-else-is-clause-takes
returns-else-is-clause-takes c =
    c.refuse-else-is.ensures.takes ∙ ap Some (sym (head_bad c.args.rest.now c.in-Some.text.now c.in-Some.behind.now (sym c.in-Some.ensures) (sym c.is.ensures ∙ c.if-is.false)))
