use Rattle.std.proofs.Common.{◌≡◌, ◌++◌, map, take}
use Rattle.pc_world.specs.Tell.Data.{told_row}
use Rattle.pc_call.proofs.reads.add_told.Given as goal

abbrev pub invariant-loop-row : goal.invariant-loop-row
invariant-loop-row l = l.rows ≡ l.initial.rows ++ map told_row (take l.row-index l.row-items)
