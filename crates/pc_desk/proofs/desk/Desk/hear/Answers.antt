use Rattle.pc_world.specs.Run.{protocol}
use Rattle.std.proofs.Common.{◌≡◌, ℕ, sym, ap, subst, ◌∙◌}
use Rattle.pc_desk.proofs.Desking.{has_heard, hear_may, hear_waves}
use Rattle.std.proofs.lemmas.Result.{err_from_is_err_and}
use Rattle.pc_desk.proofs.Ending.{ended_so}
use Rattle.pc_desk.proofs.Stopping.{last_as, last_heard}
use Rattle.pc_desk.specs.OwnLog.{MayEnter}
use Rattle.pc_desk.specs.Waves.{KeepsWavesNext}
use Rattle.pc_history.specs.Parts.{named_by}
use Rattle.pc_proto.specs.declared.event.Event.{Event}
use Rattle.pc_proto.specs.declared.event.Event.TheVariants as events
use Rattle.pc_desk.proofs.desk.Desk.hear.Goals as goal

pub enter-requires-clause-may : goal.enter-requires-clause-may
enter-requires-clause-may g c =
    let a = c.in-Some.answered in
    subst (λ l. MayEnter l (events.Hear a.number a.step)) (sym (ap (λ d. d.log) c.self.view_is))
    (hear_may c.args.self.now a c.pop_front.new.self.items c.requires.track c.requires.may (sym (ap (λ d. d.replies) c.self.view_is) ∙ c.in-Some.ensures.items))

pub enter-requires-clause-waves : goal.enter-requires-clause-waves
enter-requires-clause-waves g c =
    let a = c.in-Some.answered in
    subst (λ l. KeepsWavesNext l.beside l.part.own (events.Hear a.number a.step) (named_by (protocol l.head) l.part (events.Hear a.number a.step))) (sym (ap (λ d. d.log) c.self.view_is))
    (hear_waves c.args.self.now a c.pop_front.new.self.items c.requires.track (sym (ap (λ d. d.replies) c.self.view_is) ∙ c.in-Some.ensures.items))

pub returns-clause-ok : goal.returns-clause-ok
returns-clause-ok g c =
    has_heard _ c.args.self.now c.enter.new.self c.in-Some.answered c.pop_front.new.self.items c.self.view_is c.requires.track c.requires.none_waits c.in-Some.ensures.items c.in_ok-enter.ensures.ok

pub returns-in_err-enter-clause-ended : goal.returns-in_err-enter-clause-ended
returns-in_err-enter-clause-ended g c =
    let a = c.in-Some.answered in
    let p = err_from_is_err_and c.from_residual.result c.from_residual.ensures.1 in
    rw (p.1, p.2)
    let is : Event → Type 0 = λ made. made ≡ events.Hear a.number a.step in
    let hears : Event → Type 0 = λ made. (number : ℕ) × (step : ℕ) × (made ≡ events.Hear number step) in
    (ended_so is hears _ c.args.self.now c.enter.new.self c.pop_front.new.self.items c.in_err-enter.field-0.0 c.self.view_is c.requires.track
    (λ s. last_as is hears c.args.self.now _ (λ made so. (a.number, a.step, so)) (last_heard is c.args.self.now c.enter.new.self c.requires.track s a c.pop_front.new.self.items c.requires.none_waits (sym (ap (λ d. d.replies) c.self.view_is) ∙ c.in-Some.ensures.items) s.is)) c.in_err-enter.ensures.err)
