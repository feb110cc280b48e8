-- The lines so far are as wanted.
use Rattle.std.proofs.Common.{ℕ, List, map}
use Rattle.pc_verdict.proofs.Differences.{IsSameSoFar}
use Rattle.pc_verdict.specs.Differing.{IsMadeOf}
use Rattle.pc_verdict.proofs.differing.first_difference.Given as goal

abbrev pub invariant-loop-place : goal.invariant-loop-place
invariant-loop-place l = (wanted : List (List ℕ)) → IsMadeOf wanted l.text → IsSameSoFar (map (λ line. line.now) l.lines) wanted l.place l.rest
