use Rattle.std.proofs.Common.{◌≡◌, Some, sym, ap, ◌∙◌}
use Rattle.std.proofs.lemmas.Option.{same_Some}
use Rattle.pc_call.proofs.Refused.{used_otherwise}
use Rattle.pc_call.specs.Stages.{eighth_holder}
use Rattle.pc_world.specs.Known.{reading_in}
use Rattle.pc_call.proofs.stages.stage_on.Goals as goal

pub returns-then-are_used_up-clause-stands : goal.returns-then-are_used_up-clause-stands
returns-then-are_used_up-clause-stands c = λ set k may o wait reading suits. may.moved ((c.are_used_up.ensures.exactly k may.counts).0 c.if-are_used_up.true)

pub returns-in-Some-clause-stands : goal.returns-in-Some-clause-stands
returns-in-Some-clause-stands c = λ set k may o wait reading suits.
    may.blocked (λ eight. used_otherwise _ c.if-are_used_up.false ((c.are_used_up.ensures.exactly k may.counts).1 eight)) c.in-Some.holder (ap eighth_holder (sym c.messages.ensures) ∙ sym c.eighth_holder-eighth.ensures ∙ c.in-Some.is)

pub returns-in_ok-call-in-None-clause-stands : goal.returns-in_ok-call-in-None-clause-stands
returns-in_ok-call-in-None-clause-stands c = λ set k may o wait reading suits.
    let f = may.on (λ eight. used_otherwise _ c.if-are_used_up.false ((c.are_used_up.ensures.exactly k may.counts).1 eight)) (ap eighth_holder (sym c.messages.ensures) ∙ sym c.eighth_holder-eighth.ensures ∙ c.in-None.is) in
    c.in_ok-call-in-None.ensures.goes_on set k f.0 f.1 f.2 o wait (same_Some f.1.reading c.args.reading (sym (ap reading_in f.2.on.opened) ∙ reading)) suits
