use Rattle.std.proofs.Common.{◌≡◌}
use Rattle.pc_recoverer.specs.InRound.{HasVisitedEach}
use Rattle.pc_recoverer.proofs.visit.visit_each.Given as goal

abbrev pub invariant-loop-range : goal.invariant-loop-range
invariant-loop-range g l = HasVisitedEach l.fn.maker l.range l.fn.desk l.desk × (l.desk.log.clock ≡ l.fn.desk.log.clock)
