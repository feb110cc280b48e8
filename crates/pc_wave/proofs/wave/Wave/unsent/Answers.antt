use Rattle.std.proofs.Common.{ap, find, ◌∙◌}
use Rattle.pc_wave.proofs.Behind.{from_place, none_find}
use Rattle.pc_wave.specs.Messages.{is_to_send}
use Rattle.pc_wave.proofs.wave.Wave.unsent.Goals as goal

pub returns : goal.returns
returns c =
    ap (find is_to_send) (from_place c.self.inside.out c.deref.result.now c.self.inside.messages.items c.deref.ensures.value)
    ∙ none_find is_to_send c.self.inside.out c.self.inside.messages.items c.self.invariant.gone ∙ ap (find is_to_send) c.self.view_is
