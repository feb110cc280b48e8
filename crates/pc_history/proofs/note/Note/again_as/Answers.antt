use Rattle.pc_history.proofs.Calls.{copy_call}
use Rattle.pc_history.proofs.note.Note.again_as.Goals as goal

pub split_seat-seat-requires : goal.split_seat-seat-requires
split_seat-seat-requires g c =
    let i = c.self.inside in
    let t = i.table.value.shared in
    rw c.deref.ensures (copy_call g.W.World.sense g.N.Named.table g.N.Named.world t.key t.table_id i.seat.table_id i.seat.id i.seat.me c.self.invariant _ c.self.view_is g.J.Asked.asked c.args.uses c.requires.asked c.requires.enough)
