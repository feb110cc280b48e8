use Rattle.std.proofs.Common.{take}
use Rattle.pc_in_turns.specs.Moving.{HaveGoneOn, TakeTurns}
use Rattle.pc_in_turns.proofs.in_turns.InTurns.take_all.Given as goal

abbrev pub invariant-loop-turn : goal.invariant-loop-turn
invariant-loop-turn g l = HaveGoneOn g.C.Clock.rule (TakeTurns l.fn.self.work (take l.turn-index l.stated)) l.fn.self l.self
