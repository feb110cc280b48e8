-- What is counted so far is the size of the first items, held at the greatest number.
use Rattle.std.proofs.Common.{◌≡◌, ◌-◌, ◌^◌, min, sum_by, take}
use Rattle.pc_work.proofs.count.ItemsCounted.count.Given as goal

abbrev pub invariant-loop-item : goal.invariant-loop-item
invariant-loop-item g l = l.count ≡ min (sum_by g.T.Counted.size (take l.item-index l.item-items)) (2 ^ 64 - 1)
