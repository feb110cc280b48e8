-- The keys so far are the old ones and those of the chains so far.
use Rattle.std.proofs.Common.{◌≡◌, fold, map}
use Rattle.std.specs.Map.Iter.{deref_pair}
use Rattle.pc_mvcc.specs.Chains.{with_key_of}
use Rattle.pc_mvcc.proofs.versions.Versions.add_keys.Given as goal

abbrev pub invariant-loop-key : goal.invariant-loop-key
invariant-loop-key l = l.keys.keys ≡ fold (λ keys e. with_key_of e.0 e.1.items keys) l.fn.keys.keys (map deref_pair l.yielded)
