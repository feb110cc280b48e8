use Rattle.std.proofs.Common.{◌∙◌, sym, length, drop, vec_items, vec_len}
use Rattle.std.proofs.lemmas.List.{nil_from_length, take_at}
use Rattle.std.proofs.lemmas.Result.{IfOk-weaker}
use Rattle.std.specs.Vec.Iter.{into_iter_items}
use Rattle.pc_history.proofs.Merging.{dealt_back, next_below, next_fronts, next_noted, next_rest, turns_within}
use Rattle.pc_history.proofs.merge.merge.Goals as goal

pub note_turns-requires : goal.note_turns-requires
note_turns-requires g c =
    let loop = c.loop-list in
    next_below vec_items into_iter_items c.args.lists.items c.next.new.self.rest.items loop.fronts.items c.args.steps loop.fronts.len c.in-Some.list (loop.invariant.left ∙ c.in-Some.ensures.steps.0)
    c.requires (length c.as_mut_slice.result.now) c.as_slice.result.now (c.as_mut_slice.ensures.len ∙ loop.invariant.long) c.as_slice.ensures.value

pub loop-list-preserved : goal.loop-list-preserved
loop-list-preserved g c =
    let loop = c.loop-list in
    let lists = c.args.lists.items in
    let rest = c.next.new.self.rest.items in
    let fronts = loop.fronts.items in
    let n = loop.fronts.len in
    let list = c.in-Some.list in
    let left = loop.invariant.left ∙ c.in-Some.ensures.steps.0 in
    let m = vec_len c.push_reserved.new.self in
    let more = c.push_reserved.ensures.len in
    let noted = c.note_turns.new.turns in
    record {
      left = next_rest vec_items into_iter_items lists rest fronts c.args.steps n list left m more;
      fronts = next_fronts vec_items into_iter_items lists rest fronts c.args.steps n list left m more loop.invariant.fronts c.into_iter.result c.push_reserved.new.self.items c.push_reserved.ensures.items c.into_iter.ensures.rest;
      long = loop.invariant.long;
      room = c.push_reserved.ensures.capacity ∙ loop.invariant.room;
      noted = next_noted vec_items into_iter_items lists rest fronts c.args.steps n list left m more loop.turns.items c.as_mut_slice.result.now noted _ c.len-in-loop-list.result c.as_slice.result.now c.as_mut_slice.ensures.value
          (take_at noted (drop (length noted) loop.turns.items) loop.turns.len (c.note_turns.ensures.len ∙ c.as_mut_slice.ensures.len)) c.len-in-loop-list.ensures c.as_slice.ensures.value c.note_turns.ensures.noted c.note_turns.ensures.kept loop.invariant.noted;
    }

pub in_turns-requires : goal.in_turns-requires
in_turns-requires g c =
    let loop = c.loop-list in
    let rest = loop.list-iterator.rest in
    let none = nil_from_length rest.items (sym rest.ok.0 ∙ c.in-None.ensures.steps.0) in
    turns_within vec_items into_iter_items c.args.lists.items loop.fronts.items c.args.steps loop.fronts.len loop.turns.items loop.fronts.ok.0 loop.invariant.fronts (loop.invariant.left ∙ none) (sym loop.turns.ok.0 ∙ loop.invariant.long) loop.invariant.noted
    c.requires c.as_slice-2.result.now c.as_slice-2.ensures.value

pub returns : goal.returns
returns g c =
    let loop = c.loop-list in
    let rest = loop.list-iterator.rest in
    let none = nil_from_length rest.items (sym rest.ok.0 ∙ c.in-None.ensures.steps.0) in
    IfOk-weaker c.in_turns.result _ _ (λ v taken.
    dealt_back vec_items into_iter_items c.args.lists.items loop.fronts.items c.args.steps loop.fronts.len loop.turns.items loop.fronts.ok.0 loop.invariant.fronts (loop.invariant.left ∙ none) (sym loop.turns.ok.0 ∙ loop.invariant.long) loop.invariant.noted
    c.as_slice-2.result.now c.as_slice-2.ensures.value v.items taken)
    c.in_turns.ensures
