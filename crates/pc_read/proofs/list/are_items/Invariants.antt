-- Each item so far is one, so all are where those of the rest are.
use Rattle.std.proofs.Common.{◌≡◌, ◌==◌, length}
use Rattle.std.specs.List.{list_all, slice_split}
use Rattle.pc_read.proofs.list.are_items.Given as goal

abbrev pub invariant-items : goal.invariant-items
invariant-items g l = list_all g.I.Item.readable (slice_split (λ b. b == 44) l.bytes) ≡ list_all g.I.Item.readable (slice_split (λ b. b == 44) l.rest)

abbrev pub decreases-items : goal.decreases-items
decreases-items g l = length l.rest
