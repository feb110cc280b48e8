use Rattle.std.proofs.Common.{position, rules, sym, subst, ap, ◌∙◌}
use Rattle.pc_wave.proofs.Awaiting.{again_awaits}
use Rattle.pc_wave.proofs.Places.{set_found, set_none}
use Rattle.pc_wave.proofs.Rounds.{wave_again}
use Rattle.pc_wave.specs.Messages.{conflicts_at, goes_again, wave_awaits}
use Rattle.pc_wave.specs.Standing.{WaveStands}
use Rattle.pc_wave.proofs.Cursors.{cursors_again}
use Rattle.pc_wave.proofs.wave.Wave.again.Goals as goal

pub returns-in-Some-clause-made : goal.returns-in-Some-clause-made
returns-in-Some-clause-made c =
    set_found (conflicts_at c.args.number) goes_again c.self.inside.messages.items c.args.self.now c.place_in_conflict.result c.in-Some.place c.index_mut.result.now c.go_again.new.self
    c.self.view_is c.place_in_conflict.ensures c.in-Some.is c.index_mut.ensures.value c.go_again.ensures

pub returns-in-Some-clause-stands : goal.returns-in-Some-clause-stands
returns-in-Some-clause-stands c co k now conflict w due made =
    subst (λ ms. WaveStands co now ms) (sym (returns-in-Some-clause-made c)) (wave_again co k now c.args.self.now c.args.number conflict w due made)

pub returns-in_default-clause-made : goal.returns-in_default-clause-made
returns-in_default-clause-made c = set_none (conflicts_at c.args.number) goes_again c.args.self.now c.place_in_conflict.result c.place_in_conflict.ensures c.in_default.not-Some

pub returns-in_default-clause-stands : goal.returns-in_default-clause-stands
returns-in_default-clause-stands c co k now conflict w due made =
    subst (λ ms. WaveStands co now ms) (sym (returns-in_default-clause-made c)) (wave_again co k now c.args.self.now c.args.number conflict w due made)

pub returns-in-Some-clause-awaited : goal.returns-in-Some-clause-awaited
returns-in-Some-clause-awaited c conflict other due = ap (wave_awaits other) (returns-in-Some-clause-made c) ∙ again_awaits c.args.number other conflict c.args.self.now due

pub returns-in_default-clause-awaited : goal.returns-in_default-clause-awaited
returns-in_default-clause-awaited c conflict other due = ap (wave_awaits other) (returns-in_default-clause-made c) ∙ again_awaits c.args.number other conflict c.args.self.now due

pub invariant_of-self : goal.invariant_of-self
invariant_of-self c =
    cursors_again c.self.inside.messages.items c.self.inside.out c.self.inside.answered c.self.invariant c.in-Some.place c.go_again.new.self c.index_mut.result.now c.args.number c.min-self-inside.result
    (ap (position (conflicts_at c.args.number)) c.self.view_is ∙ sym c.place_in_conflict.ensures ∙ c.in-Some.is) (search rules) (search rules)
