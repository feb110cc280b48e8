-- The others so far are those of the transactions so far.
use Rattle.std.proofs.Common.{◌≡◌, take}
use Rattle.pc_report.specs.Ordering.{others_among}
use Rattle.pc_report.proofs.outcome.others.Given as goal

abbrev pub invariant-loop-id : goal.invariant-loop-id
invariant-loop-id l = l.others.entries ≡ others_among l.splits l.replay (take l.id-index l.begun)
