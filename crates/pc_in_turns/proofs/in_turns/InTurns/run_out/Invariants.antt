use Rattle.pc_in_turns.specs.Moving.{AreRunOutBelow, GoOut, HaveGoneOn}
use Rattle.pc_in_turns.proofs.in_turns.InTurns.run_out.Given as goal

abbrev pub invariant-loop-index : goal.invariant-loop-index
invariant-loop-index g l = HaveGoneOn g.C.Clock.rule (GoOut l.fn.self.work l.index) l.fn.self l.self × AreRunOutBelow l.index l.self.sessions
