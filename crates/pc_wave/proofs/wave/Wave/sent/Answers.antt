use Rattle.std.proofs.Common.{position, sym, subst, ap, ◌∙◌}
use Rattle.pc_wave.proofs.Awaiting.{sent_awaits}
use Rattle.pc_wave.proofs.Places.{set_found, set_none}
use Rattle.pc_wave.proofs.Sending.{wave_sent}
use Rattle.pc_wave.specs.Messages.{is_to_send, wave_awaits, sent_under}
use Rattle.pc_wave.specs.Standing.{WaveStands}
use Rattle.pc_wave.proofs.Cursors.{cursors_sent}
use Rattle.pc_wave.proofs.wave.Wave.sent.Goals as goal

pub returns-in-Some-clause-made : goal.returns-in-Some-clause-made
returns-in-Some-clause-made c =
    set_found is_to_send (sent_under c.args.number) c.self.inside.messages.items c.args.self.now c.place_to_send.result c.in-Some.place c.index_mut.result.now c.go_out.new.self
    c.self.view_is c.place_to_send.ensures c.in-Some.is c.index_mut.ensures.value c.go_out.ensures

pub returns-in-Some-clause-stands : goal.returns-in-Some-clause-stands
returns-in-Some-clause-stands c co k now range request w numbered due next more =
    subst (λ ms. WaveStands co now ms) (sym (returns-in-Some-clause-made c)) (wave_sent co k now c.args.self.now c.args.number range request w numbered due next more)

pub returns-in_default-clause-made : goal.returns-in_default-clause-made
returns-in_default-clause-made c = set_none is_to_send (sent_under c.args.number) c.args.self.now c.place_to_send.result c.place_to_send.ensures c.in_default.not-Some

pub returns-in_default-clause-stands : goal.returns-in_default-clause-stands
returns-in_default-clause-stands c co k now range request w numbered due next more =
    subst (λ ms. WaveStands co now ms) (sym (returns-in_default-clause-made c)) (wave_sent co k now c.args.self.now c.args.number range request w numbered due next more)

pub returns-in-Some-clause-awaited : goal.returns-in-Some-clause-awaited
returns-in-Some-clause-awaited c request other due = ap (wave_awaits other) (returns-in-Some-clause-made c) ∙ sent_awaits c.args.number other c.args.self.now request due

pub returns-in_default-clause-awaited : goal.returns-in_default-clause-awaited
returns-in_default-clause-awaited c request other due = ap (wave_awaits other) (returns-in_default-clause-made c) ∙ sent_awaits c.args.number other c.args.self.now request due

pub invariant_of-self : goal.invariant_of-self
invariant_of-self c =
    cursors_sent c.self.inside.messages.items c.self.inside.out c.self.inside.answered c.self.invariant c.in-Some.place c.go_out.new.self c.index_mut.result.now c.args.number
    (ap (position (is_to_send)) c.self.view_is ∙ sym c.place_to_send.ensures ∙ c.in-Some.is) c.go_out.ensures
