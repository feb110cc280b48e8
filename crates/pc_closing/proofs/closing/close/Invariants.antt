use Rattle.pc_closing.proofs.HandingIn.{AreHandedBut}
use Rattle.pc_closing.proofs.closing.close.Given as goal

abbrev pub invariant-loop-leaver : goal.invariant-loop-leaver
invariant-loop-leaver g l = AreHandedBut l.fn.ranges.limit l.fn.leavers.items l.leaver-iterator.rest.items l.fn.opener l.opener
