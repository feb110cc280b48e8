use Rattle.pc_history.proofs.Calls.{note_call}
use Rattle.pc_history.proofs.actor.Actor.note_as.Goals as goal

pub split_seat-seat-requires : goal.split_seat-seat-requires
split_seat-seat-requires g c =
    let i = c.self.inside in
    let t = i.table.value.shared in
    rw c.deref.ensures (note_call g.W.World.sense g.N.Named.table g.N.Named.world t.key t.table_id i.seat.table_id i.seat.id i.seat.me i.id i.entries.items c.self.invariant _ _ c.self.view_is g.J.Asked.asked c.args.asked c.requires.asked c.requires.within)
