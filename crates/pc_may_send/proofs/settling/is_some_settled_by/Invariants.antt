use Rattle.std.proofs.Common.{All, take}
use Rattle.pc_knowledge.specs.Keeping.{KeepsKnowledge}
use Rattle.pc_may_send.specs.Settled.{IsSettledBy}
use Rattle.pc_may_send.proofs.settling.is_some_settled_by.Given as goal
use Rattle.pc_world.specs.Known.{Known}

abbrev pub invariant-loop-hearing : goal.invariant-loop-hearing
invariant-loop-hearing l = (k : Known) → KeepsKnowledge k l.known → All (λ h. IsSettledBy k.heard l.id h → ⊥) (take l.hearing-index l.replies)
