use Rattle.std.proofs.Common.{sym}
use Rattle.pc_read.specs.Texts.{splits_in}
use Rattle.pc_read.proofs.Steps.{third_bad, third_given}
use Rattle.pc_read.proofs.lines.third_step.Goals as goal

pub returns-in-Some-actors-clause-takes : goal.returns-in-Some-actors-clause-takes
returns-in-Some-actors-clause-takes c =
    third_given (splits_in c.args.splits.now) c.in-Some-actors.sessions c.in-Some-actors.recoverers c.args.rest.now c.in-Some.text.now c.in-Some.behind.now (sym c.in-Some.ensures) (sym c.in-Some-actors.ensures)

pub returns-in-None-clause-takes : goal.returns-in-None-clause-takes
returns-in-None-clause-takes c =
    third_bad (splits_in c.args.splits.now) _ c.args.rest.now c.in-Some.text.now c.in-Some.behind.now (sym c.in-Some.ensures) (sym c.in-None.ensures) c.refuse-in-None.ensures.takes
