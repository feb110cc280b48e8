-- So many ranges so far, each blank.
use Rattle.std.proofs.Common.{◌≡◌, ℕ, ◌<◌, length, slice_get, Some}
use Rattle.pc_world.specs.RangeState.{no_state}
use Rattle.pc_judge.proofs.ranges.blank_ranges.Given as goal

abbrev pub invariant-loop-range : goal.invariant-loop-range
invariant-loop-range l = (length l.states.items ≡ l._range) × ((range : ℕ) → range < l._range → slice_get l.states.items range ≡ Some no_state)
