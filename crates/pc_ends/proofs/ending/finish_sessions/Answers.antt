use Rattle.std.proofs.Common.{All, [], sym, subst}
use Rattle.std.proofs.lemmas.List.Elements.{All-contains}
use Rattle.pc_closing.proofs.HandingIn.{empty_list}
use Rattle.pc_ends.proofs.Left.{HaveGivenBut, alone_given, next_given, none_given, one_given}
use Rattle.pc_ends.specs.SessionClock.{session_rule}
use Rattle.pc_runs.specs.Laws.{HasFinished}
use Rattle.pc_scripted.specs.Scripted.{IsScripted}
use Rattle.pc_ends.proofs.ending.finish_sessions.Goals as goal

pub loop-session-init : goal.loop-session-init
loop-session-init g c =
    let Has = HasFinished (session_rule g.C.Clock.rule) in
    subst (λ ls. HaveGivenBut Has [] c.args.sessions.items c.into_iter-session-iterator.result.rest.items ls) (sym c.new-leavers.ensures.items)
    (subst (λ ls. HaveGivenBut Has [] c.args.sessions.items ls []) (sym c.into_iter-session-iterator.ensures.into_iter_gives.0) (none_given Has [] c.args.sessions.items))

pub finish-requires : goal.finish-requires
finish-requires g c =
    let Has = HasFinished (session_rule g.C.Clock.rule) in
    let so_far = subst (λ ls. HaveGivenBut Has [] c.args.sessions.items ls c.loop-session.leavers.items) c.in-Some.ensures.steps.0 c.loop-session.invariant in
    All-contains (λ s. IsScripted s) c.args.sessions.items c.in-Some.session c.requires (next_given Has [] c.args.sessions.items c.next.new.self.rest.items c.in-Some.session c.loop-session.leavers.items so_far)

pub loop-session-preserved : goal.loop-session-preserved
loop-session-preserved g c =
    let Has = HasFinished (session_rule g.C.Clock.rule) in
    let so_far = subst (λ ls. HaveGivenBut Has [] c.args.sessions.items ls c.loop-session.leavers.items) c.in-Some.ensures.steps.0 c.loop-session.invariant in
    let e = c.finish.ensures in
    subst (λ ls. HaveGivenBut Has [] c.args.sessions.items c.next.new.self.rest.items ls) (sym c.in_ok-push.ensures.items)
    (one_given Has [] c.args.sessions.items c.next.new.self.rest.items c.in-Some.session c.loop-session.leavers.items so_far c.finish.result
    (record { part = e.actor.1; log = e.log; posted = e.rest; ready = e.ready; keeps = e.keeps }))

pub returns : goal.returns
returns g c =
    let Has = HasFinished (session_rule g.C.Clock.rule) in
    let none = empty_list c.loop-session.session-iterator.rest.items c.loop-session.session-iterator.rest.len c.loop-session.session-iterator.rest.ok.0 c.in-None.ensures.steps.0 in
    alone_given Has c.args.sessions.items c.loop-session.leavers.items (subst (λ ls. HaveGivenBut Has [] c.args.sessions.items ls c.loop-session.leavers.items) none c.loop-session.invariant)
