use Rattle.std.proofs.Common.{All, sym, subst}
use Rattle.std.proofs.lemmas.List.Elements.{All-contains}
use Rattle.pc_closing.proofs.HandingIn.{empty_list}
use Rattle.pc_ends.proofs.Left.{HaveGivenBut, all_given, next_given, none_given, one_given}
use Rattle.pc_ends.specs.SessionClock.{session_rule}
use Rattle.pc_rounds.specs.Counted.{GoesInRounds}
use Rattle.pc_runs.specs.Laws.{HasFinishedInRounds}
use Rattle.pc_ends.proofs.ending.finish_recoverers.Goals as goal

pub loop-recoverer-init : goal.loop-recoverer-init
loop-recoverer-init g c =
    let Has = HasFinishedInRounds (session_rule g.C.Clock.rule) in
    subst (λ ls. HaveGivenBut Has c.args.leavers.items c.args.recoverers.items ls c.args.leavers.items) (sym c.into_iter-recoverer-iterator.ensures.into_iter_gives.0) (none_given Has c.args.leavers.items c.args.recoverers.items)

pub finish-requires : goal.finish-requires
finish-requires g c =
    let Has = HasFinishedInRounds (session_rule g.C.Clock.rule) in
    let so_far = subst (λ ls. HaveGivenBut Has c.args.leavers.items c.args.recoverers.items ls c.loop-recoverer.leavers.items) c.in-Some.ensures.steps.0 c.loop-recoverer.invariant in
    All-contains (λ r. GoesInRounds r) c.args.recoverers.items c.in-Some.recoverer c.requires (next_given Has c.args.leavers.items c.args.recoverers.items c.next.new.self.rest.items c.in-Some.recoverer c.loop-recoverer.leavers.items so_far)

pub loop-recoverer-preserved : goal.loop-recoverer-preserved
loop-recoverer-preserved g c =
    let Has = HasFinishedInRounds (session_rule g.C.Clock.rule) in
    let so_far = subst (λ ls. HaveGivenBut Has c.args.leavers.items c.args.recoverers.items ls c.loop-recoverer.leavers.items) c.in-Some.ensures.steps.0 c.loop-recoverer.invariant in
    let e = c.finish.ensures in
    subst (λ ls. HaveGivenBut Has c.args.leavers.items c.args.recoverers.items c.next.new.self.rest.items ls) (sym c.in_ok-push.ensures.items)
    (one_given Has c.args.leavers.items c.args.recoverers.items c.next.new.self.rest.items c.in-Some.recoverer c.loop-recoverer.leavers.items so_far c.finish.result
    (record { part = e.actor.1; log = e.log; posted = e.rest; ready = e.ready; reads = e.reads }))

pub returns : goal.returns
returns g c =
    let Has = HasFinishedInRounds (session_rule g.C.Clock.rule) in
    let none = empty_list c.loop-recoverer.recoverer-iterator.rest.items c.loop-recoverer.recoverer-iterator.rest.len c.loop-recoverer.recoverer-iterator.rest.ok.0 c.in-None.ensures.steps.0 in
    all_given Has c.args.leavers.items c.args.recoverers.items c.loop-recoverer.leavers.items (subst (λ ls. HaveGivenBut Has c.args.leavers.items c.args.recoverers.items ls c.loop-recoverer.leavers.items) none c.loop-recoverer.invariant)
