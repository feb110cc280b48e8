-- What was seen so far is what is seen of the keys so far.
use Rattle.std.proofs.Common.{◌≡◌, map}
use Rattle.std.specs.List.{filter_map}
use Rattle.std.specs.Map.{keys_of}
use Rattle.std.specs.Map.Iter.{deref_pair}
use Rattle.pc_base.specs.Versions.{visible}
use Rattle.pc_mvcc.proofs.versions.Versions.visible_in.Given as goal

abbrev pub invariant-loop-chain : goal.invariant-loop-chain
invariant-loop-chain l =
    map (λ v. v.now) l.seen.items ≡ filter_map (λ key. visible key l.ts l.self) (keys_of (map deref_pair l.yielded))
