use Rattle.std.proofs.Common.{◌≡◌, ◌<◌, ◌+◌, All, IfOk, [], length, refl, sym, ap, subst, ◌∙◌, arith}
use Rattle.pc_base.specs.declared.actor.ActorId.TheVariants as actors
use Rattle.pc_closing.proofs.HandingIn.{empty_list}
use Rattle.pc_closing.specs.Opening.{IsSeatedFor}
use Rattle.pc_ends.proofs.Begun.{HasBegun, HaveBegunBut, all_clocks, all_fresh, all_runners, next_seated, next_there, none_begun, one_begun, session_seat}
use Rattle.pc_ends.specs.SessionClock.{session_rule}
use Rattle.pc_history.specs.Parts.{newcomer}
use Rattle.pc_runs.specs.Runners.{head_in_work}
use Rattle.pc_script.specs.Clocks.{clock_rule}
use Rattle.pc_ends.proofs.beginning.begin.Goals as goal

pub loop-actor-init : goal.loop-actor-init
loop-actor-init g c =
    let Has = HasBegun (session_rule g.M.Clock.Clock.rule) (g.M.Clocks.rules c.args.clocks.now) c.args.work.now in (
      subst (λ rs. HaveBegunBut Has c.args.actors.items c.into_iter-actor-iterator.result.rest.items rs) (sym c.new-runners.ensures.items)
          (subst (λ ls. HaveBegunBut Has c.args.actors.items ls []) (sym c.into_iter-actor-iterator.ensures.into_iter_gives.0) (none_begun Has c.args.actors.items)),
      refl,
    )

pub begin_next-requires-clause-there : goal.begin_next-requires-clause-there
begin_next-requires-clause-there g c =
    let Has = HasBegun (session_rule g.M.Clock.Clock.rule) (g.M.Clocks.rules c.args.clocks.now) c.args.work.now in
    let so_far = subst (λ ls. HaveBegunBut Has c.args.actors.items ls c.loop-actor.runners.items) c.in-Some.ensures.steps.0 c.loop-actor.invariant.0 in
    let low = next_there Has c.args.actors.items c.next.new.self.rest.items c.in-Some.actor c.loop-actor.runners.items so_far (head_in_work c.args.work.now) 0 (length c.args.work.now.sessions) c.requires.actors in
    let below : length c.loop-actor.runners.items < length c.args.work.now.sessions = omega (arith, low) in
    subst (λ n. n < length c.args.work.now.sessions) (sym (c.len.ensures ∙ c.loop-actor.runners.ok.0)) below

pub begin_next-requires-clause-world : goal.begin_next-requires-clause-world
begin_next-requires-clause-world g c =
    let Has = HasBegun (session_rule g.M.Clock.Clock.rule) (g.M.Clocks.rules c.args.clocks.now) c.args.work.now in
    let so_far = subst (λ ls. HaveBegunBut Has c.args.actors.items ls c.loop-actor.runners.items) c.in-Some.ensures.steps.0 c.loop-actor.invariant.0 in
    (next_seated Has c.args.actors.items c.next.new.self.rest.items c.in-Some.actor c.loop-actor.runners.items so_far (head_in_work c.args.work.now) 0 (length c.args.work.now.sessions) c.requires.actors).world

pub begin_next-requires-clause-part : goal.begin_next-requires-clause-part
begin_next-requires-clause-part g c =
    let Has = HasBegun (session_rule g.M.Clock.Clock.rule) (g.M.Clocks.rules c.args.clocks.now) c.args.work.now in
    let so_far = subst (λ ls. HaveBegunBut Has c.args.actors.items ls c.loop-actor.runners.items) c.in-Some.ensures.steps.0 c.loop-actor.invariant.0 in
    let low = next_there Has c.args.actors.items c.next.new.self.rest.items c.in-Some.actor c.loop-actor.runners.items so_far (head_in_work c.args.work.now) 0 (length c.args.work.now.sessions) c.requires.actors in
    let below : length c.loop-actor.runners.items < length c.args.work.now.sessions = omega (arith, low) in
    let same : 0 + length c.loop-actor.runners.items ≡ length c.loop-actor.runners.items = omega arith in
    subst (λ n. c.in-Some.actor.part ≡ newcomer (actors.Session (n + 1))) (sym (c.len.ensures ∙ c.loop-actor.runners.ok.0))
    (session_seat c.args.work.now (length c.loop-actor.runners.items) c.in-Some.actor below
    (subst (λ n. IsSeatedFor (head_in_work c.args.work.now) n c.in-Some.actor) same
    (next_seated Has c.args.actors.items c.next.new.self.rest.items c.in-Some.actor c.loop-actor.runners.items so_far (head_in_work c.args.work.now) 0 (length c.args.work.now.sessions) c.requires.actors)))

pub loop-actor-preserved : goal.loop-actor-preserved
loop-actor-preserved g c =
    let rule = session_rule g.M.Clock.Clock.rule in
    let rules = g.M.Clocks.rules c.args.clocks.now in
    let Has = HasBegun rule rules c.args.work.now in
    let so_far = subst (λ ls. HaveBegunBut Has c.args.actors.items ls c.loop-actor.runners.items) c.in-Some.ensures.steps.0 c.loop-actor.invariant.0 in
    let e = c.in_ok-runner.ensures in
    let begun : HasBegun rule rules c.args.work.now c.len.result c.in_ok-runner.runner = record { runner = e.runner; fresh = e.fresh; clock = λ session listed. e.clock session listed ∙ ap (λ rs. clock_rule session.clock (rs (actors.Session (c.len.result + 1)))) c.loop-actor.invariant.1 } in (
      subst (λ rs. HaveBegunBut Has c.args.actors.items c.next.new.self.rest.items rs) (sym c.in_ok-push.ensures.items)
          (one_begun Has c.args.actors.items c.next.new.self.rest.items c.in-Some.actor c.loop-actor.runners.items so_far c.in_ok-runner.runner (subst (λ n. HasBegun rule rules c.args.work.now n c.in_ok-runner.runner) (c.len.ensures ∙ c.loop-actor.runners.ok.0) begun)),
      e.kept ∙ c.loop-actor.invariant.1,
    )

pub returns-clause-runners : goal.returns-clause-runners
returns-clause-runners g c =
    let rule = session_rule g.M.Clock.Clock.rule in
    let rules = g.M.Clocks.rules c.args.clocks.now in
    let none = empty_list c.loop-actor.actor-iterator.rest.items c.loop-actor.actor-iterator.rest.len c.loop-actor.actor-iterator.rest.ok.0 c.in-None.ensures.steps.0 in
    let so_far = subst (λ ls. HaveBegunBut (HasBegun rule rules c.args.work.now) c.args.actors.items ls c.loop-actor.runners.items) none c.loop-actor.invariant.0 in
    all_runners rule rules c.args.work.now c.args.actors.items c.loop-actor.runners.items c.requires.actors so_far

pub returns-clause-fresh : goal.returns-clause-fresh
returns-clause-fresh g c =
    let rule = session_rule g.M.Clock.Clock.rule in
    let rules = g.M.Clocks.rules c.args.clocks.now in
    let none = empty_list c.loop-actor.actor-iterator.rest.items c.loop-actor.actor-iterator.rest.len c.loop-actor.actor-iterator.rest.ok.0 c.in-None.ensures.steps.0 in
    let so_far = subst (λ ls. HaveBegunBut (HasBegun rule rules c.args.work.now) c.args.actors.items ls c.loop-actor.runners.items) none c.loop-actor.invariant.0 in
    all_fresh rule rules c.args.work.now c.args.actors.items c.loop-actor.runners.items c.requires.actors so_far

pub returns-clause-clocks : goal.returns-clause-clocks
returns-clause-clocks g c =
    let rule = session_rule g.M.Clock.Clock.rule in
    let rules = g.M.Clocks.rules c.args.clocks.now in
    let none = empty_list c.loop-actor.actor-iterator.rest.items c.loop-actor.actor-iterator.rest.len c.loop-actor.actor-iterator.rest.ok.0 c.in-None.ensures.steps.0 in
    let so_far = subst (λ ls. HaveBegunBut (HasBegun rule rules c.args.work.now) c.args.actors.items ls c.loop-actor.runners.items) none c.loop-actor.invariant.0 in
    all_clocks rule rules c.args.work.now c.args.actors.items c.loop-actor.runners.items c.requires.actors so_far

pub returns-clause-kept : goal.returns-clause-kept
returns-clause-kept g c = c.loop-actor.invariant.1
