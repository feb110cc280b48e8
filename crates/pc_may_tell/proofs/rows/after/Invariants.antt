use Rattle.std.proofs.Common.{◌≡◌, ◌↔◌, ◌++◌, ℕ, List, drop, map}
use Rattle.pc_proto.specs.declared.reply.Origin.{Origin}
use Rattle.pc_world.specs.Tell.Data.{told_row}
use Rattle.pc_may_tell.proofs.rows.after.Given as goal

abbrev pub invariant-loop-row : goal.invariant-loop-row
invariant-loop-row l =
    (later : List (List ℕ × Origin × List ℕ)) → (l.rows ≡ map told_row l.found ++ later) ↔ (l.rest ≡ map told_row (drop l.row-index l.found) ++ later)
