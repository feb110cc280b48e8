use Rattle.std.proofs.Common.{◌≡◌, List, None, Some, [], map, sym, ap, ◌∙◌}
use Rattle.std.proofs.lemmas.Result.{on_ok_weaker}
use Rattle.pc_own.proofs.ByPlace.{within}
use Rattle.pc_own.proofs.Indexed.{kept_or_left, proved_nowhere, proved_seq, proved_there}
use Rattle.pc_own.proofs.Unproved.{flying_kept, flying_proved}
use Rattle.pc_own.specs.Flying.{without_write}
use Rattle.pc_own.specs.Places.{place_by_sequence}
use Rattle.pc_own.proofs.writes.Writes.prove.Goals as goal
use Rattle.pc_world.specs.Known.Writes.{Write, proved_at}

pub invariant_of-self : goal.invariant_of-self
invariant_of-self c =
    let d : Write = record { key = []; seq = 0; value = None; asked = []; proofs = [] } in
    let ws : List Write = c.self.inside.writes.items in
    let there : place_by_sequence c.args.seq ws ≡ Some c.in-Some.place = sym (c.in-Some.ensures ws c.self.invariant.places) in
    let proved = on_ok_weaker c.prove_at.result (λ is. is ∙ proved_there c.args.key.now c.args.seq c.args.ts ws c.in-Some.place d c.self.invariant.places.apart there) (c.prove_at.ensures.ok d (within c.args.seq ws c.in-Some.place there)) in
    let f = proved_at c.args.key.now c.args.seq c.args.ts in
    record {
      places = kept_or_left f (proved_seq c.args.key.now c.args.seq c.args.ts) c.prove_at.result ws c.prove_at.new.writes.items c.self.inside.places c.self.invariant.places proved c.prove_at.ensures.err;
      flying = flying_kept f (without_write c.args.key.now c.args.seq) (flying_proved c.args.key.now c.args.seq c.args.ts) c.prove_at.result ws c.prove_at.new.writes.items c.self.inside.flying.items c.prove_at.new.flying.items c.self.invariant.flying proved c.prove_at.ensures.err c.prove_at.ensures.landed c.prove_at.ensures.flying;
    }

pub returns-in-Some : goal.returns-in-Some
returns-in-Some c =
    let d : Write = record { key = []; seq = 0; value = None; asked = []; proofs = [] } in
    let ws : List Write = c.self.inside.writes.items in
    let there : place_by_sequence c.args.seq ws ≡ Some c.in-Some.place = sym (c.in-Some.ensures ws c.self.invariant.places) in
    on_ok_weaker c.prove_at.result
    (λ is. is ∙ proved_there c.args.key.now c.args.seq c.args.ts ws c.in-Some.place d c.self.invariant.places.apart there ∙ ap (map (proved_at c.args.key.now c.args.seq c.args.ts)) c.self.view_is)
    (c.prove_at.ensures.ok d (within c.args.seq ws c.in-Some.place there))

pub returns-in-None : goal.returns-in-None
returns-in-None c =
    let ws : List Write = c.self.inside.writes.items in
    sym c.self.view_is ∙ proved_nowhere c.args.key.now c.args.seq c.args.ts ws (sym (c.in-None.ensures ws c.self.invariant.places)) ∙ ap (map (proved_at c.args.key.now c.args.seq c.args.ts)) c.self.view_is
