-- The last writes so far.
use Rattle.std.proofs.Common.{◌≡◌, take}
use Rattle.pc_puts.specs.Changes.{last_puts}
use Rattle.pc_puts.proofs.changes.last_writes.Given as goal

abbrev pub invariant-loop-put : goal.invariant-loop-put
invariant-loop-put l = l.last.entries ≡ last_puts (take l.put-index l.puts)
