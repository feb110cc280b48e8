use Rattle.std.proofs.Common.{sym, ap, subst, ◌∙◌}
use Rattle.std.specs.List.{remove}
use Rattle.pc_wave.proofs.Joining.{wave_left}
use Rattle.pc_wave.specs.Standing.{WaveStands}
use Rattle.pc_wave.proofs.Cursors.{cursors_left}
use Rattle.pc_wave.proofs.wave.Wave.leave.Goals as goal

pub returns-clause-stands : goal.returns-clause-stands
returns-clause-stands c co k w =
    subst (λ ms. WaveStands co k ms) (sym (c.remove.ensures.items ∙ ap (λ ms. remove ms c.args.place) c.self.view_is)) (wave_left co k c.args.self.now c.args.place w)

pub invariant_of-self : goal.invariant_of-self
invariant_of-self c =
    rw (c.cursor_without-self-inside.ensures, c.cursor_without-self-inside-2.ensures) (cursors_left c.self.inside.messages.items c.self.inside.out c.self.inside.answered c.self.invariant c.remove.new.self.items c.args.place c.remove.ensures.items)
