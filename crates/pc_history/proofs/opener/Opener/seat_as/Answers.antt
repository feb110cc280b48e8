use Rattle.std.proofs.Common.{map, vec_items}
use Rattle.pc_history.proofs.Calls.{seat_call}
use Rattle.pc_history.proofs.opener.Opener.seat_as.Goals as goal

pub split_seat-seat-requires : goal.split_seat-seat-requires
split_seat-seat-requires g c =
    let i = c.self.inside in
    let t = i.table.value.shared in
    rw c.deref.ensures (seat_call g.W.World.sense g.N.Named.table g.N.Named.world t.key t.table_id i.seat.table_id i.seat.id i.seat.me i.whole (map vec_items i.lists.items) c.self.invariant _ c.self.view_is g.J.Asked.asked c.args.id c.requires.asked c.requires.free c.requires.few)
