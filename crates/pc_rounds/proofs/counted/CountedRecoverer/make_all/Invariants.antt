use Rattle.std.proofs.Common.{◌≡◌}
use Rattle.pc_rounds.proofs.Resting.{HasMadeSoFar}
use Rattle.pc_rounds.proofs.counted.CountedRecoverer.make_all.Given as goal

abbrev pub invariant-loop : goal.invariant-loop
invariant-loop g l = HasMadeSoFar l.fn.self l.self × (g.C.Clock.rule l.self.recoverer.desk.log.clock ≡ g.C.Clock.rule l.fn.self.recoverer.desk.log.clock)
