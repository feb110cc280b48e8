use Rattle.pc_ends.proofs.Left.{HaveGivenBut}
use Rattle.pc_ends.specs.SessionClock.{session_rule}
use Rattle.pc_runs.specs.Laws.{HasFinishedInRounds}
use Rattle.pc_ends.proofs.ending.finish_recoverers.Given as goal

abbrev pub invariant-loop-recoverer : goal.invariant-loop-recoverer
invariant-loop-recoverer g l = HaveGivenBut (HasFinishedInRounds (session_rule g.C.Clock.rule)) l.fn.leavers.items l.fn.recoverers.items l.recoverer-iterator.rest.items l.leavers.items
