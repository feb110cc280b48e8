use Rattle.std.proofs.Common.{◌≡◌, ◌∷◌, ◌++◌, List, None, Some, [], refl, sym, ap, ◌∙◌}
use Rattle.std.proofs.lemmas.Result.{on_ok_weaker}
use Rattle.std.specs.Option.{option_copied}
use Rattle.pc_own.proofs.ByPlace.{within}
use Rattle.pc_own.proofs.Indexed.{asked_seq, asked_there, kept_or_left, put_again, put_first}
use Rattle.pc_own.proofs.Unproved.{flying_asked, flying_kept, on_err_refl}
use Rattle.pc_own.specs.Places.{place_by_sequence}
use Rattle.pc_own.proofs.writes.Writes.put.Goals as goal
use Rattle.pc_world.specs.Known.Writes.{Write, asked_again, with_put}

pub invariant_of-self : goal.invariant_of-self
invariant_of-self c =
    let d : Write = record { key = []; seq = 0; value = None; asked = []; proofs = [] } in
    let ws : List Write = c.self.inside.writes.items in
    let there : place_by_sequence c.args.seq ws ≡ Some c.in-Some.place = sym (c.in-Some.ensures ws c.self.invariant.places) in
    let asked = on_ok_weaker c.ask_at.result (λ is. is ∙ asked_there c.args.seq c.args.ts ws c.in-Some.place d c.self.invariant.places.apart there) (c.ask_at.ensures.ok d (within c.args.seq ws c.in-Some.place there)) in
    let f = asked_again c.args.seq c.args.ts in
    let flying = c.self.inside.flying.items in
    record {
      places = kept_or_left f (asked_seq c.args.seq c.args.ts) c.ask_at.result ws c.ask_at.new.writes.items c.self.inside.places c.self.invariant.places asked c.ask_at.ensures.err;
      flying = flying_kept f (λ fs. fs) (flying_asked c.args.seq c.args.ts) c.ask_at.result ws c.ask_at.new.writes.items flying flying c.self.invariant.flying asked c.ask_at.ensures.err (on_ok_weaker c.ask_at.result (λ is. refl) asked) (on_err_refl c.ask_at.result flying);
    }

pub returns-in-Some : goal.returns-in-Some
returns-in-Some c =
    let d : Write = record { key = []; seq = 0; value = None; asked = []; proofs = [] } in
    let ws : List Write = c.self.inside.writes.items in
    let there : place_by_sequence c.args.seq ws ≡ Some c.in-Some.place = sym (c.in-Some.ensures ws c.self.invariant.places) in
    on_ok_weaker c.ask_at.result
    (λ is. is ∙ asked_there c.args.seq c.args.ts ws c.in-Some.place d c.self.invariant.places.apart there
    ∙ put_again c.args.seq c.args.ts c.args.key.now (option_copied c.args.value) ws c.in-Some.place there
    ∙ ap (with_put c.args.seq c.args.ts c.args.key.now (option_copied c.args.value)) c.self.view_is)
    (c.ask_at.ensures.ok d (within c.args.seq ws c.in-Some.place there))

pub returns-in_ok-write-in-None : goal.returns-in_ok-write-in-None
returns-in_ok-write-in-None c =
    let ws : List Write = c.self.inside.writes.items in
    let free : place_by_sequence c.args.seq ws ≡ None = sym (c.in-None.ensures ws c.self.invariant.places) in
    on_ok_weaker c.add.result
    (λ is. is ∙ ap (λ (ws : List Write). ws ++ c.in_ok-write-in-None.write ∷ []) (sym c.self.view_is)
    ∙ ap (λ (w : Write). ws ++ w ∷ []) c.in_ok-write-in-None.ensures
    ∙ put_first c.args.seq c.args.ts c.args.key.now (option_copied c.args.value) ws free
    ∙ ap (with_put c.args.seq c.args.ts c.args.key.now (option_copied c.args.value)) c.self.view_is)
    c.add.ensures
