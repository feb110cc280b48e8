use Rattle.std.proofs.Common.{[]}
use Rattle.pc_ends.proofs.Left.{HaveGivenBut}
use Rattle.pc_ends.specs.SessionClock.{session_rule}
use Rattle.pc_runs.specs.Laws.{HasFinished}
use Rattle.pc_ends.proofs.ending.finish_sessions.Given as goal

abbrev pub invariant-loop-session : goal.invariant-loop-session
invariant-loop-session g l = HaveGivenBut (HasFinished (session_rule g.C.Clock.rule)) [] l.fn.sessions.items l.session-iterator.rest.items l.leavers.items
