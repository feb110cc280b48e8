use Rattle.std.proofs.Common.{refl, ap, subst}
use Rattle.pc_desk.proofs.Desking.{desk_first, desk_rest}
use Rattle.pc_desk.proofs.Leaving.{taken_first}
use Rattle.pc_desk.proofs.WaveSteps.{may_go}
use Rattle.pc_desk.proofs.desk.Desk.take_first.Goals as goal

pub invariant_of-self : goal.invariant_of-self
invariant_of-self g c = (desk_rest _ _ _ _ _ _ c.in-Some.ensures.taken.whole c.self.invariant.0, c.self.invariant.1, c.self.invariant.2)

pub returns-clause-first : goal.returns-clause-first
returns-clause-first g c = taken_first _ c.args.self.now _ _ _ _ _ c.self.view_is refl c.in-Some.ensures.taken.whole c.self.invariant.0 c.in-Some.ensures.taken.rises

pub returns-clause-may : goal.returns-clause-may
returns-clause-may g c =
    may_go _ c.args.self.now _ _ c.in-Some.message c.self.view_is c.self.invariant.0.same refl refl (desk_first _ _ _ _ _ _ c.in-Some.ensures.taken.whole c.self.invariant.0)
