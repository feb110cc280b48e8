-- What was read so far, with what the rest spells, is what the whole spells.
use Rattle.std.proofs.Common.{length}
use Rattle.pc_read.proofs.Owned.{IsReadSoFar}
use Rattle.pc_read.proofs.list.owned_items.Given as goal

abbrev pub invariant-items : goal.invariant-items
invariant-items g l = IsReadSoFar g.K.Kept.read l.byte l.bytes l.items l.rest

abbrev pub decreases-items : goal.decreases-items
decreases-items g l = length l.rest
