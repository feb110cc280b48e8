use Rattle.std.proofs.Common.{◌≡◌, sym, ap, ◌∙◌, Some}
use Rattle.std.proofs.lemmas.Option.{same_Some}
use Rattle.pc_call.specs.declared.purpose.Purpose.TheVariants as purposes
use Rattle.pc_call.specs.Stages.{refusals_in}
use Rattle.pc_call.proofs.call.OpenCall.stages_on.Goals as goal

pub returns-in-Some-clause-stands : goal.returns-in-Some-clause-stands
returns-in-Some-clause-stands c = λ session clock begun n set k counted may o wait reading e suits.
    let same : n ≡ c.in-Some.refusals = same_Some n c.in-Some.refusals (sym (ap refusals_in e) ∙ sym c.refusals_in.ensures ∙ c.in-Some.is) in
    c.stage_on.ensures.stands set k (may c.in-Some.refusals (e ∙ ap (λ i. purposes.Stage i) same)) o wait reading suits

pub returns-in-Some-clause-some : goal.returns-in-Some-clause-some
returns-in-Some-clause-some c = λ n stages. c.stage_on.ensures.some
