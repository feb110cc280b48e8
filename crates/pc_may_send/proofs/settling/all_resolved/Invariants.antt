use Rattle.std.proofs.Common.{All, Any, take}
use Rattle.pc_knowledge.specs.Keeping.{KeepsKnowledge}
use Rattle.pc_world.specs.Known.{Known}
use Rattle.pc_world.specs.Send.Settling.{WasResolved}
use Rattle.pc_may_send.proofs.settling.all_resolved.Given as goal

abbrev pub invariant-loop-key : goal.invariant-loop-key
invariant-loop-key l = (k : Known) → KeepsKnowledge k l.known → All (λ key. Any (WasResolved l.id key) k.heard) (take l.key-index l.keys)
