use Rattle.std.proofs.Common.{◌≡◌, Option, None, Some, IfNone, refl}
use Rattle.std.proofs.lemmas.Result.{err_from_is_err_and}
use Rattle.pc_desk.proofs.Leaving.{begun_leaving, fewer_left, first_ready, left_none, left_one, stopped_at}
use Rattle.pc_desk.specs.Desk.{posting}
use Rattle.pc_history.specs.Parts.{uses_left}
use Rattle.pc_desk.proofs.rest.deliver_rest.Goals as goal

pub loop-message-init : goal.loop-message-init
loop-message-init g c = begun_leaving c.args.ranges.now.splits c.args.rest c.args.actor.now c.requires

pub serve-requires-clause-there : goal.serve-requires-clause-there
serve-requires-clause-there g c =
    let m = c.in-Some.message in
    (first_ready c.args.ranges.now.splits c.args.rest c.loop-message.rest c.take_first.new.self c.args.actor.now c.loop-message.actor m.sender (posting m.number m.range m.request (uses_left m.note.known)) c.loop-message.invariant c.in-Some.ensures.first).there

pub serve-requires-clause-use_left : goal.serve-requires-clause-use_left
serve-requires-clause-use_left g c =
    let m = c.in-Some.message in
    (first_ready c.args.ranges.now.splits c.args.rest c.loop-message.rest c.take_first.new.self c.args.actor.now c.loop-message.actor m.sender (posting m.number m.range m.request (uses_left m.note.known)) c.loop-message.invariant c.in-Some.ensures.first).use_left

pub serve-requires-clause-below : goal.serve-requires-clause-below
serve-requires-clause-below g c =
    let m = c.in-Some.message in
    (first_ready c.args.ranges.now.splits c.args.rest c.loop-message.rest c.take_first.new.self c.args.actor.now c.loop-message.actor m.sender (posting m.number m.range m.request (uses_left m.note.known)) c.loop-message.invariant c.in-Some.ensures.first).below

pub loop-message-preserved : goal.loop-message-preserved
loop-message-preserved g c =
    let m = c.in-Some.message in
    let r = c.in_ok-reply.reply in
    left_one c.args.ranges.now.splits c.args.rest c.loop-message.rest c.take_first.new.self c.args.actor.now c.loop-message.actor c.learn.new.actor m.sender (posting m.number m.range m.request (uses_left m.note.known)) r.step r.reply r.note.known
    c.loop-message.invariant c.in-Some.ensures.first c.in_ok-reply.ensures.told.1 c.learn.ensures

pub returns-in_err-reply-clause-stopped : goal.returns-in_err-reply-clause-stopped
returns-in_err-reply-clause-stopped g c =
    let p = err_from_is_err_and c.from_residual.result c.from_residual.ensures.1 in
    rw (p.1, p.2)
    (stopped_at c.args.ranges.now.splits c.args.ranges.now.limit c.args.rest c.loop-message.rest c.take_first.new.self c.args.actor.now c.loop-message.actor c.in-Some.message c.in_err-reply.field-0.0 c.loop-message.invariant c.in-Some.ensures.first c.in_err-reply.ensures.full)

pub loop-message-smaller : goal.loop-message-smaller
loop-message-smaller g c =
    let m = c.in-Some.message in
    fewer_left c.loop-message.rest c.take_first.new.self m.sender (posting m.number m.range m.request (uses_left m.note.known)) c.in-Some.ensures.first

none-taken : {X P : Type 0} (o : Option X) → IfNone o P → ((x : X) → o ≡ Some x → ⊥) → P
none-taken None p none = p
none-taken (Some x) p none = absurd (none x refl)

pub returns-clause-all : goal.returns-clause-all
returns-clause-all g c =
    left_none c.args.ranges.now.splits c.args.rest c.loop-message.rest c.args.actor.now c.loop-message.actor (none-taken c.take_first.result c.take_first.ensures.none c.in_default.not-Some) c.loop-message.invariant
