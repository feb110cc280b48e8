use Rattle.pc_history.proofs.Calls.{take_call}
use Rattle.pc_history.proofs.actor.Actor.take.Goals as goal

pub join_seat-requires : goal.join_seat-requires
join_seat-requires g c =
    let i = c.self.inside in
    let t = i.table.value.shared in
    let n = c.into_seat-seat.result in
    rw c.deref.ensures
    (take_call g.W.World.sense g.N.Named.table g.N.Named.world t.key t.table_id i.seat.table_id i.seat.id i.seat.me i.id i.entries.items c.self.invariant c.args.note n.table_id n.id n.me c.into_seat-seat.ensures.tied)
