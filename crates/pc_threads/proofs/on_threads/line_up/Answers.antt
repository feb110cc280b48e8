use Rattle.std.proofs.Common.{[], refl, sym, subst, ◌∙◌}
use Rattle.std.proofs.lemmas.List.Elements.{All-contains}
use Rattle.pc_closing.proofs.HandingIn.{empty_list}
use Rattle.pc_scripted.specs.Scripted.{IsScripted, own_list}
use Rattle.pc_threads.proofs.Places.{ZipsBut, zips_all, zips_more, zips_next, zips_none}
use Rattle.pc_threads.specs.Lanes.{StandsBehind, StandsBehindIn}
use Rattle.pc_threads.proofs.on_threads.line_up.Goals as goal

pub loop-other-init : goal.loop-other-init
loop-other-init g c =
    let order = own_list c.args.first.now in (
      subst (λ ls. ZipsBut (StandsBehindIn order) c.args.others.items c.into_iter-other-iterator.result.rest.items ls) (sym c.new-lanes.ensures.items)
          (subst (λ ls. ZipsBut (StandsBehindIn order) c.args.others.items ls []) (sym c.into_iter-other-iterator.ensures.into_iter_gives.0) (zips_none (StandsBehindIn order) c.args.others.items)),
      refl,
    )

pub put_behind-requires : goal.put_behind-requires
put_behind-requires g c =
    let order = own_list c.args.first.now in
    let so_far = subst (λ ls. ZipsBut (StandsBehindIn order) c.args.others.items ls c.loop-other.lanes.items) c.in-Some.ensures.steps.0 c.loop-other.invariant.0 in
    All-contains (λ s. IsScripted s) c.args.others.items c.in-Some.other c.requires (zips_next (StandsBehindIn order) c.args.others.items c.next.new.self.rest.items c.in-Some.other c.loop-other.lanes.items so_far)

pub loop-other-preserved : goal.loop-other-preserved
loop-other-preserved g c =
    let order = own_list c.args.first.now in
    let so_far = subst (λ ls. ZipsBut (StandsBehindIn order) c.args.others.items ls c.loop-other.lanes.items) c.in-Some.ensures.steps.0 c.loop-other.invariant.0 in
    let behind = subst (λ f. StandsBehind (own_list f) c.in-Some.other c.new.result.session) c.loop-other.invariant.1
    (subst (λ s. StandsBehind (own_list c.loop-other.first) c.in-Some.other s) (sym c.new.ensures) c.in_ok-put_behind.ensures.behind) in (
      subst (λ ls. ZipsBut (StandsBehindIn order) c.args.others.items c.next.new.self.rest.items ls) (sym c.in_ok-push.ensures.items)
          (zips_more (StandsBehindIn order) c.args.others.items c.next.new.self.rest.items c.in-Some.other c.loop-other.lanes.items c.new.result so_far behind),
      c.in_ok-put_behind.ensures.same ∙ c.loop-other.invariant.1,
    )

pub returns-clause-follow : goal.returns-clause-follow
returns-clause-follow g c =
    let order = own_list c.args.first.now in
    let none = empty_list c.loop-other.other-iterator.rest.items c.loop-other.other-iterator.rest.len c.loop-other.other-iterator.rest.ok.0 c.in-None.ensures.steps.0 in
    zips_all (StandsBehindIn order) c.args.others.items c.loop-other.lanes.items (subst (λ ls. ZipsBut (StandsBehindIn order) c.args.others.items ls c.loop-other.lanes.items) none c.loop-other.invariant.0)
