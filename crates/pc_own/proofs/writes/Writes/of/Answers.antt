use Rattle.std.proofs.Common.{◌≡◌, ◌==◌, None, Some, find, List, slice_get, sym, ap, ◌∙◌}
use Rattle.pc_own.proofs.ByPlace.{found_at, found_none}
use Rattle.pc_own.proofs.writes.Writes.of.Goals as goal
use Rattle.pc_own.specs.Places.{place_by_sequence}
use Rattle.pc_world.specs.Known.Writes.{Write}

pub returns-in-Some : goal.returns-in-Some
returns-in-Some c =
    let ws : List Write = c.self.inside.writes.items in
    let there : place_by_sequence c.args.seq ws ≡ Some c.in-Some.place = sym (c.in-Some.ensures ws c.self.invariant.places) in
    c.at.ensures ∙ ap (λ (ws : List Write). slice_get ws c.in-Some.place) c.as_slice.ensures.value ∙ found_at c.args.seq ws c.in-Some.place there ∙ ap (find (λ w. w.seq == c.args.seq)) c.self.view_is

pub returns-in-None : goal.returns-in-None
returns-in-None c =
    let ws : List Write = c.self.inside.writes.items in
    let free : place_by_sequence c.args.seq ws ≡ None = sym (c.in-None.ensures ws c.self.invariant.places) in
    found_none c.args.seq ws free ∙ ap (find (λ w. w.seq == c.args.seq)) c.self.view_is
