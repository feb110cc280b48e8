use Rattle.std.proofs.Common.{◌≡◌, ◌+◌, ◌<◌, ◌≤◌, ◌∙◌, sym, ap, subst, length, get_or, map, set, arith, vec_items, vec_len, vec_capacity}
use Rattle.std.proofs.lemmas.List.{nil_from_length}
use Rattle.std.specs.Vec.Iter.{into_iter_items}
use Rattle.pc_history.proofs.Merging.{IsTaken, front_empty, front_taken}
use Rattle.pc_history.proofs.merge.in_turns.Goals as goal
use Rattle.pc_history.proofs.merge.in_turns.Goals.{in-Some, in_default}

pub loop-turn-preserved : goal.loop-turn-preserved
loop-turn-preserved g c =
    let i = c.loop-turn.turn-index in
    let turns = c.args.turns.now in
    let lists = map into_iter_items c.args.fronts.items in
    let fronts = c.loop-turn.fronts.items in
    let front = c.index_mut.result.now in
    let after = c.next.new.self in
    let left = map into_iter_items (set fronts (get_or turns i 0) after) in
    let there : i < length turns = omega arith in
    let within : get_or turns i 0 < length fronts = omega (arith, c.requires i 0 there, c.loop-turn.fronts.ok.0) in
    elim c.match-next.branch [
      | in-Some w ↦
          let few : vec_len w.push_reserved.new.self ≤ i + 1 = omega arith in
          let room : vec_capacity w.push_reserved.new.self ≡ length turns = w.push_reserved.ensures.capacity ∙ c.loop-turn.invariant.room in
          record {
            many = c.loop-turn.invariant.many;
            few = subst (λ v. vec_len v ≤ i + 1) (sym w.merged-is) few;
            room = subst (λ v. vec_capacity v ≡ length turns) (sym w.merged-is) room;
            taken = subst (λ es. IsTaken (i + 1) turns lists left es) (sym (ap vec_items w.merged-is ∙ w.push_reserved.ensures.items))
                (front_taken into_iter_items turns lists fronts c.loop-turn.merged.items i front after there within c.index_mut.ensures.value c.loop-turn.invariant.taken w.in-Some.entry w.in-Some.ensures.items);
          }
      | in_default w ↦
          let few : vec_len c.loop-turn.merged ≤ i + 1 = omega arith in
          record {
            many = c.loop-turn.invariant.many;
            few = subst (λ v. vec_len v ≤ i + 1) (sym w.merged-is) few;
            room = subst (λ v. vec_capacity v ≡ length turns) (sym w.merged-is) c.loop-turn.invariant.room;
            taken = subst (λ es. IsTaken (i + 1) turns lists left es) (sym (ap vec_items w.merged-is))
                (front_empty into_iter_items turns lists fronts c.loop-turn.merged.items i front after there within c.index_mut.ensures.value c.loop-turn.invariant.taken
                (nil_from_length front.rest.items (sym front.rest.ok.0 ∙ w.in_default.ensures.cases.0)) left);
          }
    ]
