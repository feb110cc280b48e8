use Rattle.std.proofs.Common.{subst}
use Rattle.pc_ends.specs.SessionClock.{session_rule}
use Rattle.pc_in_turns.specs.InTurns.{HaveGoneInTurns}
use Rattle.pc_runs.specs.Recoverers.{HaveRecovererClocks}
use Rattle.pc_runner.proofs.Whole.{all_counted, all_scripted, left_if}
use Rattle.pc_runner.proofs.leaving.leave_turns.Goals as goal

pub go_in_turns-requires-clause-clients : goal.go_in_turns-requires-clause-clients
go_in_turns-requires-clause-clients g c κs within = record { runners = c.in_ok-sessions.ensures.runners; recoverers = c.in_ok-recoverers.ensures.recoverers }

pub finish-requires-clause-sessions : goal.finish-requires-clause-sessions
finish-requires-clause-sessions g c = all_scripted c.args.work.now (record { sessions = c.in_ok-sessions-2.sessions.items; recoverers = c.in_ok-sessions-2.recoverers.items }) c.in_ok-sessions-2.ensures.clients

pub finish-requires-clause-recoverers : goal.finish-requires-clause-recoverers
finish-requires-clause-recoverers g c = all_counted c.args.work.now (record { sessions = c.in_ok-sessions-2.sessions.items; recoverers = c.in_ok-sessions-2.recoverers.items }) c.in_ok-sessions-2.ensures.clients

pub returns : goal.returns
returns g c =
    let rules = g.M.Clocks.rules c.args.clocks.now in
    left_if c.finish.result (λ leavers. leavers.items) (session_rule g.M.Clock.Clock.rule) rules c.args.work.now (HaveGoneInTurns c.args.work.now c.args.stated.now) (record { sessions = c.in_ok-sessions-2.sessions.items; recoverers = c.in_ok-sessions-2.recoverers.items })
    c.in_ok-sessions-2.ensures.clients (c.in_ok-sessions-2.ensures.clocks rules (record { sessions = c.in_ok-sessions.ensures.clocks; recoverers = subst (λ rs. HaveRecovererClocks (session_rule g.M.Clock.Clock.rule) rs c.args.work.now c.in_ok-recoverers.recoverers.items) c.in_ok-sessions.ensures.kept c.in_ok-recoverers.ensures.clocks })) c.in_ok-sessions-2.ensures.over c.in_ok-sessions-2.ensures.order c.finish.ensures
