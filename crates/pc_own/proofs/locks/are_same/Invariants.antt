-- The locks so far are the keys before the rest.
use Rattle.std.proofs.Common.{◌≡◌, ◌++◌, map}
use Rattle.std.specs.Map.Iter.{deref}
use Rattle.pc_own.proofs.locks.are_same.Given as goal

abbrev pub invariant-loop-lock : goal.invariant-loop-lock
invariant-loop-lock l = l.keys ≡ map deref l.yielded ++ l.rest
