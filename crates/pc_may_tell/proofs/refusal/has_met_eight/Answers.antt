use Rattle.pc_may_tell.proofs.refusal.has_met_eight.Goals as goal

pub returns : goal.returns
returns c = rw (← c.hearing.view_is) c.met_eight_of.ensures
