use Rattle.std.proofs.Common.{refl, sym, subst}
use Rattle.pc_session.proofs.Standing.{followed_rests}
use Rattle.pc_session.specs.Session.{RestsOrStopped}
use Rattle.pc_session.proofs.session.Session.follow.Goals as goal

pub invariant_of-self : goal.invariant_of-self
invariant_of-self g c =
    let rests = subst (λ s. RestsOrStopped s.office) (sym c.self-inside.view_is) c.self.invariant in
    followed_rests _ _ _ refl c.follow.ensures.took c.follow.ensures.track rests

pub returns-clause-rests : goal.returns-clause-rests
returns-clause-rests g c =
    let rests = subst (λ s. RestsOrStopped s.office) (sym c.self-inside.view_is) c.self.invariant in
    followed_rests _ _ _ refl c.follow.ensures.took c.follow.ensures.track rests
