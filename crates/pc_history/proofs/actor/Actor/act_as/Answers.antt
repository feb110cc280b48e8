use Rattle.pc_history.proofs.Calls.{act_call}
use Rattle.pc_history.proofs.actor.Actor.act_as.Goals as goal

pub fetch_add-step-requires : goal.fetch_add-step-requires
fetch_add-step-requires g c =
    let i = c.self.inside in
    let t = i.table.value.shared in
    rw c.deref.ensures (act_call g.W.World.sense g.W.World.laws g.N.Named.table g.N.Named.world t.key t.table_id i.seat.table_id i.seat.id i.seat.me i.id i.entries.items c.self.invariant _ _ c.self.view_is g.J.Asked.asked c.args.event c.requires.asked
    record { short = c.requires.short; local = c.requires.local; caused = c.requires.caused; can_spend = c.requires.can_spend })
