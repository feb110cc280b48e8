use Rattle.std.proofs.Common.{◌≡◌, ◌∷◌, ◌++◌, [], sym, ap, subst, ◌∙◌}
use Rattle.pc_wave.proofs.Joining.{wave_joined}
use Rattle.pc_wave.specs.Messages.{message_to_send}
use Rattle.pc_wave.specs.Standing.{WaveStands}
use Rattle.pc_wave.proofs.Cursors.{cursors_push}
use Rattle.pc_wave.proofs.wave.Wave.add.Goals as goal

pub returns-clause-stands : goal.returns-clause-stands
returns-clause-stands c co k w join =
    let made : c.push.new.self.items ≡ c.args.self.now ++ message_to_send c.args.request ∷ [] =
    c.in_ok-push.ensures.items ∙ ap (λ ms. ms ++ c.to_send.result ∷ []) c.self.view_is ∙ ap (λ m. c.args.self.now ++ m ∷ []) c.to_send.ensures in
    subst (λ ms. WaveStands co k ms) (sym made) (wave_joined co k c.args.self.now c.args.request w join)

pub invariant_of-self-2 : goal.invariant_of-self-2
invariant_of-self-2 c = cursors_push c.self.inside.messages.items c.self.inside.out c.self.inside.answered c.self.invariant c.push.new.self.items _ c.in_ok-push.ensures.items
