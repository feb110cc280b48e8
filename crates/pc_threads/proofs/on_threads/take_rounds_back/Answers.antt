use Rattle.std.proofs.Common.{[], sym, subst}
use Rattle.pc_closing.proofs.HandingIn.{empty_list}
use Rattle.pc_threads.proofs.Places.{ZipsBut, zips_all, zips_more, zips_none}
use Rattle.pc_threads.specs.RoundLanes.{HasLeftRoundLane}
use Rattle.pc_threads.proofs.on_threads.take_rounds_back.Goals as goal

pub loop-lane-init : goal.loop-lane-init
loop-lane-init g c =
    subst (λ ls. ZipsBut HasLeftRoundLane c.args.lanes.items c.into_iter-lane-iterator.result.rest.items ls) (sym c.new-recoverers.ensures.items)
    (subst (λ ls. ZipsBut HasLeftRoundLane c.args.lanes.items ls []) (sym c.into_iter-lane-iterator.ensures.into_iter_gives.0) (zips_none HasLeftRoundLane c.args.lanes.items))

pub loop-lane-preserved : goal.loop-lane-preserved
loop-lane-preserved g c =
    let so_far = subst (λ ls. ZipsBut HasLeftRoundLane c.args.lanes.items ls c.loop-lane.recoverers.items) c.in-Some.ensures.steps.0 c.loop-lane.invariant in
    subst (λ ls. ZipsBut HasLeftRoundLane c.args.lanes.items c.next.new.self.rest.items ls) (sym c.in_ok-push.ensures.items)
    (zips_more HasLeftRoundLane c.args.lanes.items c.next.new.self.rest.items c.in-Some.lane c.loop-lane.recoverers.items c.in_ok-finish.field-0 so_far c.in_ok-finish.ensures)

pub returns : goal.returns
returns g c =
    let none = empty_list c.loop-lane.lane-iterator.rest.items c.loop-lane.lane-iterator.rest.len c.loop-lane.lane-iterator.rest.ok.0 c.in-None.ensures.steps.0 in
    zips_all HasLeftRoundLane c.args.lanes.items c.loop-lane.recoverers.items (subst (λ ls. ZipsBut HasLeftRoundLane c.args.lanes.items ls c.loop-lane.recoverers.items) none c.loop-lane.invariant)
