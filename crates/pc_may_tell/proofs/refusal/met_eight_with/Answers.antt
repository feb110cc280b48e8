use Rattle.pc_known.proofs.Exact.{both}
use Rattle.pc_may_tell.proofs.Alike.{met_eight_iff}
use Rattle.pc_may_tell.proofs.refusal.met_eight_with.Goals as goal

pub returns : goal.returns
returns c = both c.some_met_eight.ensures (met_eight_iff c.args.holder c.args.heard_now.now)
