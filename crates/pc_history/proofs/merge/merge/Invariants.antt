use Rattle.std.proofs.Common.{◌≡◌, map, take, drop, vec_items, vec_len, vec_capacity}
use Rattle.std.specs.Vec.Iter.{into_iter_items}
use Rattle.pc_history.proofs.Merging.{IsNoted}
use Rattle.pc_history.proofs.merge.merge.Given as goal

abbrev pub invariant-loop-list : goal.invariant-loop-list
invariant-loop-list g l = record {
  left : drop (vec_len l.fronts) l.fn.lists.items ≡ l.list-iterator.rest.items;
  fronts : map into_iter_items l.fronts.items ≡ map vec_items (take (vec_len l.fronts) l.fn.lists.items);
  long : vec_len l.turns ≡ l.fn.steps;
  room : vec_capacity l.fronts ≡ vec_len l.fn.lists;
  noted : IsNoted (map vec_items l.fn.lists.items) l.fn.steps (vec_len l.fronts) l.turns.items;
}
