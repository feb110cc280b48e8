use Rattle.std.proofs.Common.{◌≡◌}
use Rattle.pc_in_turns.proofs.Whole.{HaveNoneLeftBelow}
use Rattle.pc_in_turns.specs.Moving.{HaveGoneOn, RecoverOut}
use Rattle.pc_in_turns.proofs.in_turns.InTurns.recover_out.Given as goal

abbrev pub invariant-loop-index : goal.invariant-loop-index
invariant-loop-index g l = HaveGoneOn g.C.Clock.rule (RecoverOut l.fn.self.work l.index) l.fn.self l.self × (l.self.sessions ≡ l.fn.self.sessions) × HaveNoneLeftBelow l.index l.self.recoverers
