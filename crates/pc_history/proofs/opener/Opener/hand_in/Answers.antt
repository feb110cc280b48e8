use Rattle.std.proofs.Common.{map, vec_items}
use Rattle.pc_history.proofs.Calls.{hand_in_call}
use Rattle.pc_history.proofs.opener.Opener.hand_in.Goals as goal

pub join_seat-requires : goal.join_seat-requires
join_seat-requires g c =
    let i = c.self.inside in
    let t = i.table.value.shared in
    let n = c.into_fields-seat.result in
    rw c.deref.ensures (hand_in_call g.W.World.sense g.N.Named.table g.N.Named.world t.key t.table_id i.seat.table_id i.seat.id i.seat.me i.whole (map vec_items i.lists.items) c.self.invariant c.args.actor n.0.table_id n.0.id n.0.me n.1.items c.into_fields-seat.ensures.tied)
