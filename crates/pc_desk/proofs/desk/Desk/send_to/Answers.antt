use Rattle.std.proofs.Common.{◌≡◌, ℕ, ◌+◌, ◌<◌, ◌^◌, sym, ap, subst, arith}
use Rattle.pc_desk.proofs.Desking.{has_sent, next_is_fresh, sends_few}
use Rattle.pc_desk.proofs.Going.{range_is_there}
use Rattle.pc_desk.proofs.Stopping.{last_as, last_halts, last_sent, made_below, made_send, made_there}
use Rattle.pc_desk.specs.Desk.{EndsWithSend, posted_as}
use Rattle.pc_desk.specs.OwnLog.{HasMadeEntry}
use Rattle.pc_proto.specs.declared.event.Event.{Event}
use Rattle.pc_proto.specs.declared.event.Event.TheVariants as events
use Rattle.pc_proto.specs.Stamps.{request_stamps}
use Rattle.pc_world.specs.RangeOf.{GoesTo}
use Rattle.pc_world.specs.Stamps.{AllBelowGreatest}
use Rattle.pc_desk.proofs.desk.Desk.send_to.Goals as goal

pub overflow_add-number : goal.overflow_add-number
overflow_add-number g c =
    let few : c.args.self.now.sends + 1 < 2 ^ 64 = sends_few c.args.self.now c.requires.track in
    let same = ap (λ d. d.sends) c.self.view_is in
    omega arith

pub post-requires-clause-last : goal.post-requires-clause-last
post-requires-clause-last g c =
    subst (λ q. EndsWithSend c.enter_send.new.self.log (c.self.inside.sends + 1) c.args.range q) c.in-Ok.ensures
    (made_send _ c.enter_send.new.self.log (c.self.inside.sends + 1) c.args.range c.in-Ok.copy c.in_ok-last.last c.in_ok-last.ensures.ok)

pub post-requires-clause-fresh : goal.post-requires-clause-fresh
post-requires-clause-fresh g c =
    let number = c.self.inside.sends + 1 in
    subst (λ l. posted_as number l ≡ 0) (sym (ap (λ d. d.posted) c.in_ok-last.ensures.rest))
    (next_is_fresh c.args.self.now number c.requires.track (ap (λ n. n + 1) (ap (λ d. d.sends) c.self.view_is)))

pub post-requires-clause-there : goal.post-requires-clause-there
post-requires-clause-there g c =
    let i = c.self.inside in
    let same = ap (λ d. d.log.head.splits) c.self.view_is in
    let goes = subst (λ s. GoesTo s c.args.request c.args.range) (sym same) c.requires.may.goes in
    made_there c.args.self.now.log c.enter_send.new.self.log (c.self.inside.sends + 1) c.args.range c.in-Ok.copy c.in_ok-last.last c.in_ok-last.ensures.ok i.log.head.splits same
    (range_is_there i.log.head.splits c.args.request c.args.range c.self.invariant.0.rising goes)

pub post-requires-clause-below : goal.post-requires-clause-below
post-requires-clause-below g c =
    subst (λ q. AllBelowGreatest (request_stamps q)) c.in-Ok.ensures
    (made_below _ c.enter_send.new.self.log (c.self.inside.sends + 1) c.args.range c.in-Ok.copy c.in_ok-last.last c.in_ok-last.ensures.ok)

pub returns-clause-ok : goal.returns-clause-ok
returns-clause-ok g c =
    let number = c.self.inside.sends + 1 in
    let made = subst (λ q. HasMadeEntry c.args.self.now.log c.enter_send.new.self.log (events.Send number c.args.range q) c.in_ok-last.last) c.in-Ok.ensures c.in_ok-last.ensures.ok in
    has_sent c.args.self.now c.enter_send.new.self c.post.new.self number c.args.range c.args.request c.requires.track c.requires.none_waits c.requires.may.goes
    (ap (λ n. n + 1) (ap (λ d. d.sends) c.self.view_is))
    (subst (HasMadeEntry c.args.self.now.log c.enter_send.new.self.log (events.Send number c.args.range c.args.request)) c.if-last.false made)
    c.in_ok-last.ensures.rest c.in-Ok-post.ensures.ok

pub returns-then-last-clause-err : goal.returns-then-last-clause-err
returns-then-last-clause-err g c =
    let number = c.self.inside.sends + 1 in
    let made = subst (λ q. HasMadeEntry c.args.self.now.log c.enter_send.new.self.log (events.Send number c.args.range q) c.in_ok-last.last) c.in-Ok.ensures c.in_ok-last.ensures.ok in
    last_halts c.args.self.now c.enter_send.new.self c.post.new.self number c.args.range c.args.request c.in-Ok-post.ensures.ok
    (subst (HasMadeEntry c.args.self.now.log c.enter_send.new.self.log (events.Send number c.args.range c.args.request)) c.if-last.true made)

pub returns-then-last-clause-ended : goal.returns-then-last-clause-ended
returns-then-last-clause-ended g c = λ going.
    let number = c.self.inside.sends + 1 in
    let made = subst (λ q. HasMadeEntry c.args.self.now.log c.enter_send.new.self.log (events.Send number c.args.range q) c.in_ok-last.last) c.in-Ok.ensures c.in_ok-last.ensures.ok in
    let sends : Event → Type 0 = λ event. event ≡ events.Send number c.args.range c.args.request in
    last_as sends (λ event. (n : ℕ) × (event ≡ events.Send n c.args.range c.args.request)) c.args.self.now c.post.new.self (λ event is. (number, is))
    (last_sent c.args.self.now c.enter_send.new.self c.post.new.self number c.args.range c.args.request c.in-Ok-post.ensures.ok c.requires.track c.requires.none_waits c.requires.may.goes
    (ap (λ n. n + 1) (ap (λ d. d.sends) c.self.view_is))
    (subst (HasMadeEntry c.args.self.now.log c.enter_send.new.self.log (events.Send number c.args.range c.args.request)) c.if-last.true made)
    c.in_ok-last.ensures.rest)
