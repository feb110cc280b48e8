use Rattle.std.proofs.Common.{◌≡◌, ap, drop, position, ◌∙◌}
use Rattle.pc_wave.proofs.Behind.{from_place, none_other, place_behind}
use Rattle.pc_wave.proofs.Cursors.{none_awaits}
use Rattle.pc_wave.specs.Cursors.{lacks_answer}
use Rattle.pc_wave.specs.Messages.{awaits_at}
use Rattle.pc_wave.proofs.wave.Wave.place_awaited.Goals as goal

pub returns-in_err-place : goal.returns-in_err-place
returns-in_err-place c =
    let found : c.first_awaited.result ≡ position (awaits_at c.args.number) (drop c.self.inside.answered c.self.inside.messages.items) =
    c.first_awaited.ensures ∙ ap (position (awaits_at c.args.number)) (from_place c.self.inside.answered c.deref.result.now c.self.inside.messages.items c.deref.ensures.value) in
    c.from_residual.ensures
    ∙ (place_behind (awaits_at c.args.number) c.self.inside.answered c.self.inside.messages.items c.args.self.now c.first_awaited.result (none_other lacks_answer (awaits_at c.args.number) (none_awaits c.args.number) c.self.inside.answered c.self.inside.messages.items c.self.invariant.heard) c.self.view_is found).0 c.in_err-place.was

pub returns : goal.returns
returns c =
    let found : c.first_awaited.result ≡ position (awaits_at c.args.number) (drop c.self.inside.answered c.self.inside.messages.items) =
    c.first_awaited.ensures ∙ ap (position (awaits_at c.args.number)) (from_place c.self.inside.answered c.deref.result.now c.self.inside.messages.items c.deref.ensures.value) in
    (place_behind (awaits_at c.args.number) c.self.inside.answered c.self.inside.messages.items c.args.self.now c.first_awaited.result (none_other lacks_answer (awaits_at c.args.number) (none_awaits c.args.number) c.self.inside.answered c.self.inside.messages.items c.self.invariant.heard) c.self.view_is found).1 c.in_ok-place.place c.in_ok-place.was
