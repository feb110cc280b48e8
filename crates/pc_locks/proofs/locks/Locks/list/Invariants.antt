-- The list so far is the keys so far.
use Rattle.std.proofs.Common.{◌≡◌, map}
use Rattle.std.specs.Map.Iter.{deref}
use Rattle.pc_locks.proofs.locks.Locks.list.Given as goal

abbrev pub invariant-loop-key : goal.invariant-loop-key
invariant-loop-key l = l.list ≡ map deref l.yielded
