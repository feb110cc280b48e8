use Rattle.std.proofs.Common.{rules, filter, sym, ap, subst, ◌∙◌}
use Rattle.std.proofs.lemmas.Fn.{filter_same}
use Rattle.pc_flight.proofs.Bounds.{filtered}
use Rattle.pc_flight.specs.InFlight.{IsFlight, is_another}
use Rattle.pc_flight.proofs.flight.Flight.take_out.Goals as goal

pub invariant_of-self : goal.invariant_of-self
invariant_of-self c =
    let test = is_another c.args.key.now c.args.seq in
    let made = filter_same _ test _ (λ x b f' k. search rules) _ _ c.retain.ensures.filtered in
    subst IsFlight (sym made) (filtered test _ c.self.invariant)

pub returns : goal.returns
returns c =
    let test = is_another c.args.key.now c.args.seq in
    filter_same _ test _ (λ x b f' k. search rules) _ _ c.retain.ensures.filtered ∙ ap (filter test) c.self.view_is
