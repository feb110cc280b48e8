use Rattle.std.proofs.Common.{position, rules, sym, subst, ap, ◌∙◌}
use Rattle.pc_wave.proofs.Awaiting.{lost_awaits}
use Rattle.pc_wave.proofs.Losing.{wave_lost}
use Rattle.pc_wave.proofs.Places.{set_found, set_none}
use Rattle.pc_wave.specs.Messages.{awaits_at, lost_of, wave_awaits}
use Rattle.pc_wave.specs.Standing.{WaveStands}
use Rattle.pc_wave.proofs.Cursors.{cursors_lost}
use Rattle.pc_wave.proofs.wave.Wave.lost.Goals as goal

pub returns-in-Some-clause-made : goal.returns-in-Some-clause-made
returns-in-Some-clause-made c =
    set_found (awaits_at c.args.number) (lost_of c.args.tries) c.self.inside.messages.items c.args.self.now c.place_awaited.result c.in-Some.place c.index_mut.result.now c.lose.new.self
    c.self.view_is c.place_awaited.ensures c.in-Some.is c.index_mut.ensures.value c.lose.ensures

pub returns-in-Some-clause-stands : goal.returns-in-Some-clause-stands
returns-in-Some-clause-stands c co k w waited loses some =
    subst (λ ms. WaveStands co k ms) (sym (returns-in-Some-clause-made c)) (wave_lost co k c.args.self.now c.args.number c.args.tries w waited loses some)

pub returns-in_default-clause-made : goal.returns-in_default-clause-made
returns-in_default-clause-made c =
    set_none (awaits_at c.args.number) (lost_of c.args.tries) c.args.self.now c.place_awaited.result c.place_awaited.ensures c.in_default.not-Some

pub returns-in_default-clause-stands : goal.returns-in_default-clause-stands
returns-in_default-clause-stands c co k w waited loses some =
    subst (λ ms. WaveStands co k ms) (sym (returns-in_default-clause-made c)) (wave_lost co k c.args.self.now c.args.number c.args.tries w waited loses some)

pub returns-in-Some-clause-awaited : goal.returns-in-Some-clause-awaited
returns-in-Some-clause-awaited c co k other w waited = ap (wave_awaits other) (returns-in-Some-clause-made c) ∙ lost_awaits c.args.number other c.args.tries co k c.args.self.now w waited

pub returns-in_default-clause-awaited : goal.returns-in_default-clause-awaited
returns-in_default-clause-awaited c co k other w waited = ap (wave_awaits other) (returns-in_default-clause-made c) ∙ lost_awaits c.args.number other c.args.tries co k c.args.self.now w waited

pub invariant_of-self : goal.invariant_of-self
invariant_of-self c =
    cursors_lost c.self.inside.messages.items c.self.inside.out c.self.inside.answered c.self.invariant c.in-Some.place c.lose.new.self c.index_mut.result.now c.args.number c.min-self-inside.result
    (ap (position (awaits_at c.args.number)) c.self.view_is ∙ sym c.place_awaited.ensures ∙ c.in-Some.is) (search rules) (search rules)
