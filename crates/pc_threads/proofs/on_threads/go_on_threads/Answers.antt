use Rattle.std.proofs.Common.{◌≤◌, sym, subst}
use Rattle.pc_scripted.specs.Scripted.{own_list}
use Rattle.pc_threads.proofs.RoundsGone.{all_counted, lanes_counted}
use Rattle.pc_threads.proofs.Whole.{all_scripted, client_clocks_went, clients_went, ends_went, if_ok, lanes_scripted, lanes_some, order_went}
use Rattle.pc_threads.proofs.on_threads.go_on_threads.Goals as goal

pub start-requires-clause-some : goal.start-requires-clause-some
start-requires-clause-some g c κs within = subst (λ n. 1 ≤ n) (sym c.requires.clients.runners.many) c.requires.some_session

pub start-requires-clause-scripted : goal.start-requires-clause-scripted
start-requires-clause-scripted g c κs within = all_scripted c.args.work.now c.args.sessions.items c.requires.clients.runners

pub start-requires-clause-counted : goal.start-requires-clause-counted
start-requires-clause-counted g c κs within = all_counted c.args.work.now c.args.recoverers.items c.requires.clients.recoverers

pub run_to_ends-requires-clause-some : goal.run_to_ends-requires-clause-some
run_to_ends-requires-clause-some g c κs within = lanes_some g.C.Clock.rule c.args.work.now.opening c.args.sessions.items c.in_ok-lanes.lanes.0.items c.in_ok-lanes.ensures.0

pub run_to_ends-requires-clause-scripted : goal.run_to_ends-requires-clause-scripted
run_to_ends-requires-clause-scripted g c κs within = lanes_scripted g.C.Clock.rule c.args.work.now.opening c.args.sessions.items c.in_ok-lanes.lanes.0.items c.in_ok-lanes.ensures.0

pub run_to_ends-requires-clause-counted : goal.run_to_ends-requires-clause-counted
run_to_ends-requires-clause-counted g c κs within = lanes_counted (own_list c.in_ok-lanes.ensures.0.opened) c.args.recoverers.items c.in_ok-lanes.lanes.1.items c.in_ok-lanes.ensures.1

pub returns-clause-clients : goal.returns-clause-clients
returns-clause-clients g c =
    if_ok c.run_to_ends.result _ _ c.run_to_ends.ensures
    (λ gone all. clients_went c.args.work.now g.C.Clock.rule c.args.sessions.items c.args.recoverers.items c.requires.clients c.requires.fresh c.requires.fresh_recoverers c.in_ok-lanes.lanes.0.items all.run c.in_ok-lanes.ensures.0 all.ran gone.0.items all.back c.in_ok-lanes.lanes.1.items all.round_run c.in_ok-lanes.ensures.1 all.round_ran gone.1.items
    all.round_back)

pub returns-clause-clocks : goal.returns-clause-clocks
returns-clause-clocks g c =
    if_ok c.run_to_ends.result _ _ c.run_to_ends.ensures
    (λ gone all. client_clocks_went c.args.work.now g.C.Clock.rule c.args.sessions.items c.args.recoverers.items c.requires.clients c.requires.fresh c.requires.fresh_recoverers c.in_ok-lanes.lanes.0.items all.run c.in_ok-lanes.ensures.0 all.ran gone.0.items all.back c.in_ok-lanes.lanes.1.items all.round_run c.in_ok-lanes.ensures.1 all.round_ran gone.1.items
    all.round_back)

pub returns-clause-over : goal.returns-clause-over
returns-clause-over g c =
    if_ok c.run_to_ends.result _ _ c.run_to_ends.ensures
    (λ gone all. ends_went c.args.work.now g.C.Clock.rule c.args.sessions.items c.args.recoverers.items c.requires.clients c.requires.fresh c.requires.fresh_recoverers c.in_ok-lanes.lanes.0.items all.run c.in_ok-lanes.ensures.0 all.ran gone.0.items all.back c.in_ok-lanes.lanes.1.items all.round_run c.in_ok-lanes.ensures.1 all.round_ran gone.1.items
    all.round_back)

pub returns-clause-order : goal.returns-clause-order
returns-clause-order g c =
    if_ok c.run_to_ends.result _ _ c.run_to_ends.ensures
    (λ gone all. order_went c.args.work.now g.C.Clock.rule c.args.sessions.items c.args.recoverers.items c.requires.clients c.requires.fresh c.requires.fresh_recoverers c.in_ok-lanes.lanes.0.items all.run c.in_ok-lanes.ensures.0 all.ran gone.0.items all.back c.in_ok-lanes.lanes.1.items all.round_run c.in_ok-lanes.ensures.1 all.round_ran gone.1.items
    all.round_back)
