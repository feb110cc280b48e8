use Rattle.std.proofs.Common.{[], refl, sym, subst, ◌∙◌}
use Rattle.std.proofs.lemmas.List.Elements.{All-contains}
use Rattle.pc_closing.proofs.HandingIn.{empty_list}
use Rattle.pc_rounds.specs.Counted.{GoesInRounds}
use Rattle.pc_scripted.specs.Scripted.{own_list}
use Rattle.pc_threads.proofs.Places.{ZipsBut, zips_all, zips_more, zips_next, zips_none}
use Rattle.pc_threads.specs.RoundLanes.{WaitsBehind, WaitsBehindIn}
use Rattle.pc_threads.proofs.on_threads.line_up_rounds.Goals as goal

pub loop-recoverer-init : goal.loop-recoverer-init
loop-recoverer-init g c =
    let order = own_list c.args.first.now in (
      subst (λ ls. ZipsBut (WaitsBehindIn order) c.args.recoverers.items c.into_iter-recoverer-iterator.result.rest.items ls) (sym c.new-lanes.ensures.items)
          (subst (λ ls. ZipsBut (WaitsBehindIn order) c.args.recoverers.items ls []) (sym c.into_iter-recoverer-iterator.ensures.into_iter_gives.0) (zips_none (WaitsBehindIn order) c.args.recoverers.items)),
      refl,
    )

pub put_rounds_behind-requires : goal.put_rounds_behind-requires
put_rounds_behind-requires g c =
    let order = own_list c.args.first.now in
    let so_far = subst (λ ls. ZipsBut (WaitsBehindIn order) c.args.recoverers.items ls c.loop-recoverer.lanes.items) c.in-Some.ensures.steps.0 c.loop-recoverer.invariant.0 in
    All-contains (λ r. GoesInRounds r) c.args.recoverers.items c.in-Some.recoverer c.requires (zips_next (WaitsBehindIn order) c.args.recoverers.items c.next.new.self.rest.items c.in-Some.recoverer c.loop-recoverer.lanes.items so_far)

pub loop-recoverer-preserved : goal.loop-recoverer-preserved
loop-recoverer-preserved g c =
    let order = own_list c.args.first.now in
    let so_far = subst (λ ls. ZipsBut (WaitsBehindIn order) c.args.recoverers.items ls c.loop-recoverer.lanes.items) c.in-Some.ensures.steps.0 c.loop-recoverer.invariant.0 in
    let behind = subst (λ f. WaitsBehind (own_list f) c.in-Some.recoverer c.new.result.recoverer) c.loop-recoverer.invariant.1
    (subst (λ s. WaitsBehind (own_list c.loop-recoverer.first) c.in-Some.recoverer s) (sym c.new.ensures) c.in_ok-put_rounds_behind.ensures.behind) in (
      subst (λ ls. ZipsBut (WaitsBehindIn order) c.args.recoverers.items c.next.new.self.rest.items ls) (sym c.in_ok-push.ensures.items)
          (zips_more (WaitsBehindIn order) c.args.recoverers.items c.next.new.self.rest.items c.in-Some.recoverer c.loop-recoverer.lanes.items c.new.result so_far behind),
      c.in_ok-put_rounds_behind.ensures.same ∙ c.loop-recoverer.invariant.1,
    )

pub returns-clause-follow : goal.returns-clause-follow
returns-clause-follow g c =
    let order = own_list c.args.first.now in
    let none = empty_list c.loop-recoverer.recoverer-iterator.rest.items c.loop-recoverer.recoverer-iterator.rest.len c.loop-recoverer.recoverer-iterator.rest.ok.0 c.in-None.ensures.steps.0 in
    zips_all (WaitsBehindIn order) c.args.recoverers.items c.loop-recoverer.lanes.items (subst (λ ls. ZipsBut (WaitsBehindIn order) c.args.recoverers.items ls c.loop-recoverer.lanes.items) none c.loop-recoverer.invariant.0)
