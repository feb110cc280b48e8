-- What is copied so far is the first part of the list.
use Rattle.std.proofs.Common.{◌≡◌, take}
use Rattle.pc_base.proofs.items.ItemsTryCopy.copy.Given as goal

abbrev pub invariant-loop-item : goal.invariant-loop-item
invariant-loop-item g l = l.items.items ≡ take l.item-index l.item-items
