use Rattle.std.proofs.Common.{◌<◌, ◌+◌, sym, subst, arith}
use Rattle.pc_closing.proofs.Seating.{AreSeatedUpTo, next_few, next_free, none_seated, one_seated}
use Rattle.pc_closing.proofs.opening.seat_clients.Goals as goal

pub loop-index-init : goal.loop-index-init
loop-index-init g c =
    subst (λ xs. AreSeatedUpTo c.args.opener.now c.args.opener.now xs c.args.from c.args.from) (sym c.new-actors.ensures.items) (none_seated c.args.opener.now c.args.from c.requires.before)

pub seat-requires-clause-free : goal.seat-requires-clause-free
seat-requires-clause-free g c =
    next_free c.args.opener.now c.loop-index.opener c.loop-index.actors.items c.args.from c.loop-index.index c.loop-index.invariant c.client.result (c.client.ensures c.args.opener.now.world c.requires.sessions)

pub seat-requires-clause-few : goal.seat-requires-clause-few
seat-requires-clause-few g c =
    let below : c.loop-index.index < c.args.to = c.loop-index-test.true in
    let few = c.requires.few in
    next_few c.args.opener.now c.loop-index.opener c.loop-index.actors.items c.args.from c.loop-index.index c.loop-index.invariant (omega arith)

pub loop-index-preserved : goal.loop-index-preserved
loop-index-preserved g c =
    subst (λ xs. AreSeatedUpTo c.args.opener.now c.seat.new.self xs c.args.from (c.loop-index.index + 1)) (sym c.in_ok-push.ensures.items)
    (one_seated c.args.opener.now c.loop-index.opener c.loop-index.actors.items c.args.from c.loop-index.index c.loop-index.invariant c.seat.new.self c.in_ok-seat.field-0 c.client.result (c.client.ensures c.args.opener.now.world c.requires.sessions) c.seat.ensures.same
    c.in_ok-seat.ensures.seated c.in_ok-seat.ensures.actor.0 c.in_ok-seat.ensures.actor.1)
