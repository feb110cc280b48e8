use Rattle.pc_in_turns.proofs.Whole.{took_all, took_at, took_none}
use Rattle.pc_in_turns.proofs.in_turns.InTurns.take_all.Goals as goal

pub loop-turn-init : goal.loop-turn-init
loop-turn-init g c = took_none g.C.Clock.rule c.args.self.now c.requires.in_turns c.args.stated.now

pub take-requires-clause-in_turns : goal.take-requires-clause-in_turns
take-requires-clause-in_turns g c κs within = c.loop-turn.invariant.in_turns

pub take-requires-clause-there : goal.take-requires-clause-there
take-requires-clause-there g c κs within = rw c.loop-turn.invariant.work (c.requires.there c.loop-turn.turn-index _ c.loop-turn-test.true)

pub loop-turn-preserved : goal.loop-turn-preserved
loop-turn-preserved g c =
    took_at g.C.Clock.rule c.args.self.now c.requires.in_turns c.loop-turn.self c.take.new.self c.args.stated.now c.loop-turn.turn-index _ c.loop-turn-test.true c.loop-turn.invariant c.in_ok-take.ensures

pub returns : goal.returns
returns g c = took_all g.C.Clock.rule c.args.self.now c.requires.in_turns c.loop-turn.self c.args.stated.now c.loop-turn.turn-index c.loop-turn-test.false c.loop-turn.invariant
