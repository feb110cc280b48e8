use Rattle.std.proofs.Common.{◌<◌, ap, subst, All}
use Rattle.pc_history.proofs.Calls.{look_call}
use Rattle.pc_history.specs.Parts.{knowledge}
use Rattle.pc_history.proofs.actor.Actor.look.Goals as goal

pub load-requires : goal.load-requires
load-requires g c =
    let i = c.self.inside in
    let t = i.table.value.shared in
    rw c.deref.ensures (look_call g.W.World.sense g.W.World.laws g.N.Named.table g.N.Named.world t.key t.table_id i.seat.table_id i.seat.id i.seat.me c.self.invariant.seated c.self.invariant.role_is c.self.invariant.world_is)

pub returns-clause-above : goal.returns-clause-above
returns-clause-above g c =
    let tells = c.load.ensures.2.1 c.self.inside.table.value.shared.key c.self.invariant.world_is in
    subst (λ p. All (λ e. e.step < c.load.result) (knowledge p)) (ap (λ a. a.part) c.self.view_is) tells.above

pub returns-clause-small : goal.returns-clause-small
returns-clause-small g c = (c.load.ensures.2.1 c.self.inside.table.value.shared.key c.self.invariant.world_is).small
