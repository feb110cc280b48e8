use Rattle.std.proofs.Common.{All, take, ℕ, ◌≤◌}
use Rattle.pc_knowledge.proofs.reads.are_all_good.Given as goal
use Rattle.pc_knowledge.specs.Keeping.{KeepsKnowledge}
use Rattle.pc_world.specs.Known.{Known}
use Rattle.pc_world.specs.Known.Reads.{IsGoodTo}

abbrev pub invariant-loop-read : goal.invariant-loop-read
invariant-loop-read l = (k : Known) → KeepsKnowledge k l.known → All (λ r. (good : ℕ) × IsGoodTo l.id k.heard r.span r.ts good × (l.ts ≤ good)) (take l.read-index l.reads)
