use Rattle.pc_in_turns.proofs.Whole.{HasTakenTurns}
use Rattle.pc_in_turns.specs.Moving.{HaveGoneOn, TakeTurns}
use Rattle.pc_turns.specs.Order.{recoverer_turns}
use Rattle.std.proofs.Common.{◌+◌, ◌-◌, ◌≤◌}
use Rattle.pc_in_turns.proofs.in_turns.InTurns.recover_all.Given as goal

abbrev pub invariant-loop-taken : goal.invariant-loop-taken
invariant-loop-taken g l =
    HaveGoneOn g.C.Clock.rule (TakeTurns l.fn.self.work (recoverer_turns (l.index + 1) l.taken)) l.fn.self l.self × HasTakenTurns l.index l.rounds l.taken l.fn.self l.self × (l.taken ≤ l.rounds)

abbrev pub decreases-loop-taken : goal.decreases-loop-taken
decreases-loop-taken g l = l.rounds - l.taken
