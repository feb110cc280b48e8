use Rattle.std.proofs.Common.{sym, ◌∙◌}
use Rattle.pc_rounds.proofs.Resting.{done_makes_none, is_left}
use Rattle.pc_rounds.proofs.counted.CountedRecoverer.round.Goals as goal

pub returns-then-is_done-clause-ok : goal.returns-then-is_done-clause-ok
returns-then-is_done-clause-ok g c = done_makes_none c.args.self.now c.requires (sym c.is_done.ensures ∙ c.if-is_done.true)

pub make_one-requires-clause-going : goal.make_one-requires-clause-going
make_one-requires-clause-going g c = (is_left _ _ _ (sym c.is_done.ensures ∙ c.if-is_done.false)).0

pub make_one-requires-clause-left : goal.make_one-requires-clause-left
make_one-requires-clause-left g c = (is_left _ _ _ (sym c.is_done.ensures ∙ c.if-is_done.false)).1
