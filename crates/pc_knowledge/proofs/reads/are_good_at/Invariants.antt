use Rattle.std.proofs.Common.{All, take}
use Rattle.pc_knowledge.proofs.reads.are_good_at.Given as goal
use Rattle.pc_knowledge.specs.Keeping.{KeepsKnowledge}
use Rattle.pc_world.specs.Known.{Known}
use Rattle.pc_world.specs.Known.Reads.{IsGoodAt}

abbrev pub invariant-loop-read : goal.invariant-loop-read
invariant-loop-read l = (k : Known) → KeepsKnowledge k l.known → All (IsGoodAt l.id k.heard l.ts) (take l.read-index l.reads)
