use Rattle.std.proofs.Common.{◌≡◌, ◌≤◌, length, map, vec_len, vec_capacity}
use Rattle.std.specs.Vec.Iter.{into_iter_items}
use Rattle.pc_history.proofs.Merging.{IsTaken}
use Rattle.pc_history.proofs.merge.in_turns.Given as goal

abbrev pub invariant-loop-turn : goal.invariant-loop-turn
invariant-loop-turn g l = record {
  many : vec_len l.fronts ≡ vec_len l.fn.fronts;
  few : vec_len l.merged ≤ l.turn-index;
  room : vec_capacity l.merged ≡ length l.turns;
  taken : IsTaken l.turn-index l.turns (map into_iter_items l.fn.fronts.items) (map into_iter_items l.fronts.items) l.merged.items;
}
