use Rattle.std.proofs.Common.{All, sym, ap, subst}
use Rattle.pc_closing.proofs.HandingIn.{AreHandedBut, all_handed, closed_if, empty_list, handed_all, next_leaver, none_handed, one_handed, ranges_handed}
use Rattle.pc_desk.specs.Desk.{IsReadyToGo}
use Rattle.pc_closing.proofs.closing.close.Goals as goal

pub loop-leaver-init : goal.loop-leaver-init
loop-leaver-init g c =
    subst (λ ls. AreHandedBut c.args.ranges.limit c.args.leavers.items ls c.args.opener c.args.opener) (sym c.into_iter-leaver-iterator.ensures.into_iter_gives.0)
    (none_handed c.args.ranges.limit c.args.leavers.items c.args.opener (ap (λ o. o.parts) c.requires.opener))

pub leave-requires-clause-ready : goal.leave-requires-clause-ready
leave-requires-clause-ready g c =
    let so_far = subst (λ ls. AreHandedBut c.args.ranges.limit c.args.leavers.items ls c.args.opener c.loop-leaver.opener) c.in-Some.ensures.steps.0 c.loop-leaver.invariant in
    subst (λ s. All (IsReadyToGo c.in-Some.leaver.0.part.id s) c.in-Some.leaver.1) (sym c.requires.ranges)
    (next_leaver c.args.ranges.limit c.args.opener.world c.args.leavers.items c.in-Some.leaver c.next.new.self.rest.items c.args.opener c.loop-leaver.opener c.requires.leavers so_far).ready

pub leave-requires-clause-may : goal.leave-requires-clause-may
leave-requires-clause-may g c =
    let so_far = subst (λ ls. AreHandedBut c.args.ranges.limit c.args.leavers.items ls c.args.opener c.loop-leaver.opener) c.in-Some.ensures.steps.0 c.loop-leaver.invariant in
    (next_leaver c.args.ranges.limit c.args.opener.world c.args.leavers.items c.in-Some.leaver c.next.new.self.rest.items c.args.opener c.loop-leaver.opener c.requires.leavers so_far).may

pub loop-leaver-preserved : goal.loop-leaver-preserved
loop-leaver-preserved g c =
    let so_far = subst (λ ls. AreHandedBut c.args.ranges.limit c.args.leavers.items ls c.args.opener c.loop-leaver.opener) c.in-Some.ensures.steps.0 c.loop-leaver.invariant in
    let left = c.in_ok-leave.ensures.left in
    one_handed c.args.ranges.limit c.args.opener.world c.args.leavers.items c.in-Some.leaver c.next.new.self.rest.items c.args.opener c.loop-leaver.opener c.requires.leavers so_far c.leave.new.opener left.0 left.1 left.2

pub close-requires-2 : goal.close-requires-2
close-requires-2 g c =
    let none = empty_list c.loop-leaver.leaver-iterator.rest.items c.loop-leaver.leaver-iterator.rest.len c.loop-leaver.leaver-iterator.rest.ok.0 c.in-None.ensures.steps.0 in
    let so_far = all_handed c.args.ranges.limit c.args.opener.world c.args.leavers.items c.loop-leaver.leaver-iterator.rest.items c.args.opener c.loop-leaver.opener none c.requires.opener c.loop-leaver.invariant in
    handed_all c.args.ranges.limit c.args.opener.world c.args.leavers.items c.loop-leaver.opener c.close.new.opener c.requires.leavers so_far
    (ranges_handed c.args.ranges.splits c.args.opener.world c.loop-leaver.opener c.close.new.opener c.requires.ranges c.in_ok-close.ensures.handed)

pub returns : goal.returns
returns g c =
    let none = empty_list c.loop-leaver.leaver-iterator.rest.items c.loop-leaver.leaver-iterator.rest.len c.loop-leaver.leaver-iterator.rest.ok.0 c.in-None.ensures.steps.0 in
    let so_far = all_handed c.args.ranges.limit c.args.opener.world c.args.leavers.items c.loop-leaver.leaver-iterator.rest.items c.args.opener c.loop-leaver.opener none c.requires.opener c.loop-leaver.invariant in
    closed_if c.args.ranges.limit c.args.opener.world c.args.leavers.items c.loop-leaver.opener c.close.new.opener c.requires.leavers so_far
    (ranges_handed c.args.ranges.splits c.args.opener.world c.loop-leaver.opener c.close.new.opener c.requires.ranges c.in_ok-close.ensures.handed) c.close-2.result c.close-2.ensures.history
