use Rattle.std.proofs.Common.{◌≡◌, ap, drop, position, ◌∙◌}
use Rattle.pc_wave.proofs.Behind.{from_place, place_behind}
use Rattle.pc_wave.specs.Messages.{is_to_send}
use Rattle.pc_wave.proofs.wave.Wave.place_to_send.Goals as goal

pub returns-in_err-place : goal.returns-in_err-place
returns-in_err-place c =
    let found : c.first_to_send.result ≡ position is_to_send (drop c.self.inside.out c.self.inside.messages.items) =
    c.first_to_send.ensures ∙ ap (position is_to_send) (from_place c.self.inside.out c.deref.result.now c.self.inside.messages.items c.deref.ensures.value) in
    c.from_residual.ensures
    ∙ (place_behind is_to_send c.self.inside.out c.self.inside.messages.items c.args.self.now c.first_to_send.result c.self.invariant.gone c.self.view_is found).0 c.in_err-place.was

pub returns : goal.returns
returns c =
    let found : c.first_to_send.result ≡ position is_to_send (drop c.self.inside.out c.self.inside.messages.items) =
    c.first_to_send.ensures ∙ ap (position is_to_send) (from_place c.self.inside.out c.deref.result.now c.self.inside.messages.items c.deref.ensures.value) in
    (place_behind is_to_send c.self.inside.out c.self.inside.messages.items c.args.self.now c.first_to_send.result c.self.invariant.gone c.self.view_is found).1 c.in_ok-place.place c.in_ok-place.was
