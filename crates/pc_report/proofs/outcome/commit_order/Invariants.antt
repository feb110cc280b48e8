-- The order so far is that of the transactions so far.
use Rattle.std.proofs.Common.{◌≡◌, take}
use Rattle.pc_report.specs.Ordering.{order_among}
use Rattle.pc_report.proofs.outcome.commit_order.Given as goal

abbrev pub invariant-loop-id : goal.invariant-loop-id
invariant-loop-id l = l.order.entries ≡ order_among l.splits l.replay (take l.id-index l.begun)
