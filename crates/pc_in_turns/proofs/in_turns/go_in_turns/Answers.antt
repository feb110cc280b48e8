use Rattle.std.proofs.Common.{All, length, refl, subst, sym}
use Rattle.pc_in_turns.proofs.Whole.{begins, clients_in_turns, clocks_in_turns, ends_in_turns, order_in_turns}
use Rattle.pc_work.specs.Named.{IsTurnOf}
use Rattle.pc_work.specs.declared.workload.Workload.{Workload}
use Rattle.pc_in_turns.proofs.in_turns.go_in_turns.Goals as goal

pub take_all-requires-clause-there : goal.take_all-requires-clause-there
take_all-requires-clause-there g c κs within =
    subst (λ (w : Workload). All (IsTurnOf (length w.sessions) (length w.recoverers)) c.args.stated.now) (sym c.in_ok-open.ensures.work) c.requires.turns

pub returns-clause-clients : goal.returns-clause-clients
returns-clause-clients g c =
    clients_in_turns c.args.work.now c.args.sessions.items c.args.recoverers.items c.requires.clients g.C.Clock.rule c.args.stated.now c.in_ok-open.ensures c.in_ok-take_all.ensures c.in_ok-run_out.ensures.gone c.in_ok-recover_out.ensures.gone refl refl refl _ c.turns-4.view_is

pub returns-clause-clocks : goal.returns-clause-clocks
returns-clause-clocks g c = λ rules have.
    clocks_in_turns c.args.work.now c.args.sessions.items c.args.recoverers.items c.requires.clients g.C.Clock.rule c.args.stated.now c.in_ok-open.ensures c.in_ok-take_all.ensures c.in_ok-run_out.ensures.gone c.in_ok-recover_out.ensures.gone refl refl refl _ c.turns-4.view_is rules have

pub returns-clause-over : goal.returns-clause-over
returns-clause-over g c =
    ends_in_turns c.args.work.now c.args.sessions.items c.args.recoverers.items c.requires.clients g.C.Clock.rule c.args.stated.now c.in_ok-open.ensures c.in_ok-take_all.ensures c.in_ok-run_out.ensures.gone c.in_ok-recover_out.ensures.gone refl refl refl _ c.turns-4.view_is
    c.in_ok-run_out.ensures.over c.in_ok-recover_out.ensures.sessions c.in_ok-recover_out.ensures.over

pub returns-clause-order : goal.returns-clause-order
returns-clause-order g c =
    order_in_turns c.args.work.now c.args.sessions.items c.args.recoverers.items c.requires.clients g.C.Clock.rule c.args.stated.now c.in_ok-open.ensures c.in_ok-take_all.ensures c.in_ok-run_out.ensures.gone c.in_ok-recover_out.ensures.gone refl refl refl _ c.turns-4.view_is c.requires.fresh c.requires.fresh_recoverers

pub open-requires-after_bounds : goal.open-requires-after_bounds
open-requires-after_bounds g c κs within = begins c.args.work.now c.args.sessions.items c.args.recoverers.items c.requires.clients c.requires.some_session
