use Rattle.std.proofs.Common.{All, take}
use Rattle.pc_desk.specs.Wave.{IsReply}
use Rattle.pc_desk.proofs.wave.first_refusal.Given as goal

abbrev pub invariant-loop-outcome : goal.invariant-loop-outcome
invariant-loop-outcome g l = All IsReply (take l.outcome-index l.outcomes)
