-- What is kept is that of the lines so far; each line that is read is one less.
use Rattle.std.proofs.Common.{length}
use Rattle.pc_verdict.proofs.Bodies.{IsReadSoFar}
use Rattle.pc_verdict.proofs.body.Body.read.Given as goal

abbrev pub invariant-loop-line : goal.invariant-loop-line
invariant-loop-line l = IsReadSoFar l.initial.lines l.lines l.body

abbrev pub decreases-loop-line : goal.decreases-loop-line
decreases-loop-line l = length l.lines
