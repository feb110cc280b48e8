-- None of the chains so far has one.
use Rattle.std.proofs.Common.{◌≡◌, None, find, map}
use Rattle.std.specs.Map.Iter.{deref_pair}
use Rattle.pc_mvcc.proofs.Spans.{has_one}
use Rattle.pc_mvcc.proofs.versions.Versions.any_in.Given as goal

abbrev pub invariant-loop-chain : goal.invariant-loop-chain
invariant-loop-chain l = find (has_one l.from l.to) (map deref_pair l.yielded) ≡ None
