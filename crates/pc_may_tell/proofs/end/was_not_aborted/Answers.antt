use Rattle.pc_may_tell.proofs.end.was_not_aborted.Goals as goal
use Rattle.pc_may_tell.proofs.Endings.{none_aborted}

pub returns : goal.returns
returns c = none_aborted c.args.id c.args.heard_now.now c.was_aborted_somehow.result c.was_aborted_somehow.ensures
