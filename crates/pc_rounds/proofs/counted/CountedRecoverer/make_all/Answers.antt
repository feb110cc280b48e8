use Rattle.std.proofs.Common.{refl, sym, ◌∙◌}
use Rattle.pc_rounds.proofs.Resting.{done_is_over, is_left, made_all, made_more, made_nothing}
use Rattle.pc_rounds.proofs.counted.CountedRecoverer.make_all.Goals as goal

pub loop-init : goal.loop-init
loop-init g c = (made_nothing c.args.self.now c.requires, refl)

pub returns-then-is_done-clause-ok : goal.returns-then-is_done-clause-ok
returns-then-is_done-clause-ok g c = made_all c.args.self.now c.loop.self c.loop.invariant.0 (done_is_over c.loop.self (sym c.is_done.ensures ∙ c.if-is_done.true))

pub make_one-requires-clause-counted : goal.make_one-requires-clause-counted
make_one-requires-clause-counted g c = c.loop.invariant.0.by.counted

pub make_one-requires-clause-going : goal.make_one-requires-clause-going
make_one-requires-clause-going g c = (is_left _ _ _ (sym c.is_done.ensures ∙ c.if-is_done.false)).0

pub make_one-requires-clause-left : goal.make_one-requires-clause-left
make_one-requires-clause-left g c = (is_left _ _ _ (sym c.is_done.ensures ∙ c.if-is_done.false)).1

pub loop-preserved : goal.loop-preserved
loop-preserved g c = (made_more c.args.self.now c.loop.self c.make_one.new.self c.loop.invariant.0 c.in_ok-make_one.ensures.ok, c.in_ok-make_one.ensures.rule ∙ c.loop.invariant.1)
