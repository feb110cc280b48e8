use Rattle.std.proofs.Common.{◌≡◌, ◌∷◌, ◌++◌, [], sym, ap, subst, ◌∙◌}
use Rattle.pc_wave.proofs.Joining.{wave_joined_on_way}
use Rattle.pc_wave.specs.Messages.{message_on_way}
use Rattle.pc_wave.specs.Standing.{WaveStands}
use Rattle.pc_wave.proofs.Cursors.{cursors_push}
use Rattle.pc_wave.proofs.wave.Wave.join.Goals as goal

pub returns-clause-stands : goal.returns-clause-stands
returns-clause-stands c co k w join =
    let made : c.push.new.self.items ≡ c.args.self.now ++ message_on_way c.args.number c.args.request ∷ [] =
    c.in_ok-push.ensures.items ∙ ap (λ ms. ms ++ c.on_way.result ∷ []) c.self.view_is ∙ ap (λ m. c.args.self.now ++ m ∷ []) c.on_way.ensures in
    subst (λ ms. WaveStands co k ms) (sym made) (wave_joined_on_way co k c.args.self.now c.args.number c.args.request w join)

pub invariant_of-self-2 : goal.invariant_of-self-2
invariant_of-self-2 c = cursors_push c.self.inside.messages.items c.self.inside.out c.self.inside.answered c.self.invariant c.push.new.self.items _ c.in_ok-push.ensures.items
