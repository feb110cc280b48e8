use Rattle.std.proofs.Common.{Some, sym, ap, ◌∙◌}
use Rattle.pc_read.specs.Texts.{splits_in}
use Rattle.pc_read.proofs.Steps.{second_bad, second_given}
use Rattle.pc_read.proofs.lines.second_step.Goals as goal

pub returns-in-Some-ranges-clause-takes : goal.returns-in-Some-ranges-clause-takes
returns-in-Some-ranges-clause-takes c =
    second_given (splits_in c.in-Some-ranges.splits.now) _ c.args.rest.now c.in-Some.text.now c.in-Some.behind.now (sym c.in-Some.ensures) c.in-Some-ranges.ensures.0 c.in-Some-ranges.ensures.1 c.third_step.ensures.takes

pub returns-in-None-clause-takes : goal.returns-in-None-clause-takes
returns-in-None-clause-takes c =
    c.refuse-in-None.ensures.takes ∙ ap Some (sym (second_bad c.args.rest.now c.in-Some.text.now c.in-Some.behind.now (sym c.in-Some.ensures) c.in-None.ensures))
