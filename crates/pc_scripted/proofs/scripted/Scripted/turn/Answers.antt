use Rattle.std.proofs.Common.{sym, ◌∙◌}
use Rattle.pc_scripted.proofs.Resting.{over_asks, stopped_asks}
use Rattle.pc_scripted.proofs.scripted.Scripted.turn.Goals as goal

pub returns-then-has_stopped-clause-ok : goal.returns-then-has_stopped-clause-ok
returns-then-has_stopped-clause-ok g c = stopped_asks c.args.self.now c.requires.scripted (sym c.has_stopped.ensures ∙ c.if-has_stopped.true)

pub returns-in-None-clause-ok : goal.returns-in-None-clause-ok
returns-in-None-clause-ok g c = over_asks c.args.self.now c.requires.scripted (sym c.has_stopped.ensures ∙ c.if-has_stopped.false) (sym c.in_ok-call.ensures ∙ c.in-None.is)
