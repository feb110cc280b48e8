use Rattle.std.proofs.Common.{◌≡◌}
use Rattle.pc_scripted.proofs.Going.{HasGoneSoFar}
use Rattle.pc_scripted.specs.Taking.{are_items_over}
use Rattle.pc_scripted.proofs.scripted.Scripted.open.Given as goal

abbrev pub invariant-loop : goal.invariant-loop
invariant-loop g l = HasGoneSoFar (are_items_over l.items l.fn.self.at.reruns l.fn.self.script) l.fn.self l.self × (g.C.Clock.rule l.self.session.desk.log.clock ≡ g.C.Clock.rule l.fn.self.session.desk.log.clock)
