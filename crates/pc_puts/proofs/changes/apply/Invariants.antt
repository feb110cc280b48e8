-- The map after the puts so far.
use Rattle.std.proofs.Common.{◌≡◌, fold, take}
use Rattle.pc_puts.specs.Changes.{map_with_put}
use Rattle.pc_puts.proofs.changes.apply.Given as goal

abbrev pub invariant-loop-put : goal.invariant-loop-put
invariant-loop-put l = l.map.entries ≡ fold map_with_put l.initial.map.entries (take l.put-index l.puts)
