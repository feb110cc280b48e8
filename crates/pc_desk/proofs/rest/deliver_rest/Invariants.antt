use Rattle.std.proofs.Common.{length}
use Rattle.pc_desk.proofs.Leaving.{IsUnderWay}
use Rattle.pc_desk.proofs.rest.deliver_rest.Given as goal

abbrev pub invariant-loop-message : goal.invariant-loop-message
invariant-loop-message g l = IsUnderWay l.ranges.splits l.initial.rest l.rest l.initial.actor l.actor

abbrev pub decreases-loop-message : goal.decreases-loop-message
decreases-loop-message g l = length l.rest
