use Rattle.std.proofs.Common.{sym}
use Rattle.pc_read.proofs.Places.{cut_at_first, cut_nowhere}
use Rattle.pc_read.proofs.cut.cut.Goals as goal

pub returns-in-Some : goal.returns-in-Some
returns-in-Some c = cut_at_first c.args.byte c.args.bytes.now c.in-Some.at c.in-Some.ensures

pub returns-in-None : goal.returns-in-None
returns-in-None c = sym (cut_nowhere c.args.byte c.args.bytes.now c.in-None.ensures)
