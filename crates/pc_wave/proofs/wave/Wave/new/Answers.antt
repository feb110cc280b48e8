use Rattle.std.proofs.Common.{sym, subst}
use Rattle.pc_wave.proofs.Joining.{none_stand}
use Rattle.pc_wave.specs.Standing.{WaveStands}
use Rattle.pc_wave.proofs.wave.Wave.new.Goals as goal

pub returns-clause-stands : goal.returns-clause-stands
returns-clause-stands c co k = subst (λ ms. WaveStands co k ms) (sym c.new.ensures.items) (none_stand co k)
