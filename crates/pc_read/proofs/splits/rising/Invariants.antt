-- The keys so far rise, so all do where those of the rest rise above the last of them.
use Rattle.std.proofs.Common.{◌≡◌, ◌==◌, None, ◌+◌, ◌≤◌, length, option_map}
use Rattle.std.specs.List.{slice_split}
use Rattle.pc_read.specs.Rising.{rising}
use Rattle.pc_read.proofs.splits.rising.Given as goal

abbrev pub invariant-keys : goal.invariant-keys
invariant-keys l = record {
  rest : rising None (slice_split (λ b. b == 32) l.bytes) ≡ option_map (λ more. l.found + more) (rising (option_map (λ last. last.now) l.before) (slice_split (λ b. b == 32) l.rest));
  room : l.found + length l.rest ≤ length l.bytes;
}

abbrev pub decreases-keys : goal.decreases-keys
decreases-keys l = length l.rest
