use Rattle.std.proofs.Common.{◌≡◌, take}
use Rattle.pc_proto.specs.Stamps.{greatest_of, row_stamps}
use Rattle.pc_known.proofs.stamp.row_stamp.Given as goal

abbrev pub invariant-loop-row : goal.invariant-loop-row
invariant-loop-row l = l.last ≡ greatest_of (row_stamps (take l.row-index l.row-items))
