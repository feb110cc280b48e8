use Rattle.std.proofs.Common.{◌≡◌}
use Rattle.pc_session.specs.InCall.{HasAsked, HasOpenCall, IsBetweenWaves}
use Rattle.pc_session.proofs.office.Office.call.Given as goal

abbrev pub invariant-loop : goal.invariant-loop
invariant-loop g l = HasOpenCall l.self l.reading × HasAsked l.fn.self l.self l.fn.call l.reading × (g.C.Clock.rule l.self.desk.log.clock ≡ g.C.Clock.rule l.fn.self.desk.log.clock) × IsBetweenWaves l.self.desk
