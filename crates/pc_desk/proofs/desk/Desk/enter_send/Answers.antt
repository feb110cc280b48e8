use Rattle.std.proofs.lemmas.Result.{err_from_is_err_and}
use Rattle.pc_desk.proofs.Ending.{ended_so}
use Rattle.pc_proto.specs.declared.event.Event.{Event}
use Rattle.pc_desk.proofs.desk.Desk.enter_send.Goals as goal

pub returns-in_err-last-clause-ended : goal.returns-in_err-last-clause-ended
returns-in_err-last-clause-ended g c =
    let p = err_from_is_err_and c.from_residual.result c.from_residual.ensures.1 in
    rw (p.1, p.2)
    (λ track. ended_so (λ (made : Event). ⊥) (λ (made : Event). ⊥) _ c.args.self.now c.add.new.self _ c.in_err-last.field-0.0 c.self.view_is track (λ s. absurd s.is) c.in_err-last.ensures.err)

pub add-requires-clause-waves : goal.add-requires-clause-waves
add-requires-clause-waves g c = record { whole = tt; order = λ one. tt }
