use Rattle.std.proofs.Common.{IfOk, map, rules, subst, vec_items}
use Rattle.std.proofs.lemmas.Result.{IfOk-weaker}
use Rattle.pc_history.specs.Meanings.{OpenerMeaning}
use Rattle.pc_history.specs.Closed.{IsHistoryOf}
use Rattle.pc_history.proofs.Calls.{close_call}
use Rattle.pc_history.proofs.CloseStep.{closed-history, closed-lists}
use Rattle.pc_history.proofs.opener.Opener.close.Goals as goal

pub load-steps-requires : goal.load-steps-requires
load-steps-requires g c =
    let i = c.self.inside in
    let t = i.table.value.shared in
    rw c.deref.ensures (close_call g.W.World.sense g.W.World.laws g.N.Named.table g.N.Named.world t.key t.table_id i.seat.table_id i.seat.id i.seat.me i.whole (map vec_items i.lists.items) c.self.invariant _ c.self.view_is c.requires)

pub merge-requires : goal.merge-requires
merge-requires g c =
    let i = c.self.inside in
    let t = i.table.value.shared in
    closed-lists (g.W.World.sense t.key) i.seat.me.0.parts c.load-steps.result (map vec_items i.lists.items) (c.load-steps.ensures.2.1 t.key c.self.invariant.world_is) (c.self.invariant.lists_are (search rules))

pub returns-clause-history : goal.returns-clause-history
returns-clause-history g c =
    let i = c.self.inside in
    let t = i.table.value.shared in
    subst (λ (o : OpenerMeaning g.row.W.Denot g.row.W-Event.Denot). IfOk c.merge.result (λ v. IsHistoryOf (g.W.World.sense o.world) v.items o.parts)) c.self.view_is
    (IfOk-weaker c.merge.result _ _ (λ v back.
    closed-history (g.W.World.sense t.key) i.seat.me.0.parts c.load-steps.result (map vec_items i.lists.items) (c.load-steps.ensures.2.1 t.key c.self.invariant.world_is) (c.self.invariant.lists_are (search rules)) v.items back)
    c.merge.ensures)
