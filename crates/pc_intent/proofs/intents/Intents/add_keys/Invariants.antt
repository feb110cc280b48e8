-- The keys so far are the old ones and those of the intents so far.
use Rattle.std.proofs.Common.{◌≡◌, fold, map}
use Rattle.std.specs.BTreeSet.{insert_key}
use Rattle.std.specs.Cmp.Lexicographic.{slice_cmp}
use Rattle.std.specs.Map.Iter.{deref_pair}
use Rattle.std.specs.Ordering.{nat_cmp}
use Rattle.pc_intent.proofs.intents.Intents.add_keys.Given as goal

abbrev pub invariant-loop-key : goal.invariant-loop-key
invariant-loop-key l = l.keys.keys ≡ fold (insert_key (slice_cmp nat_cmp)) l.fn.keys.keys (map (λ e. e.0) (map deref_pair l.yielded))
