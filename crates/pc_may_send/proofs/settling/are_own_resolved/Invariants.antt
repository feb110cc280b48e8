use Rattle.std.proofs.Common.{All, Any, map}
use Rattle.std.specs.Map.Iter.{deref}
use Rattle.pc_knowledge.specs.Keeping.{KeepsKnowledge}
use Rattle.pc_world.specs.Known.{Known}
use Rattle.pc_world.specs.Send.Settling.{WasResolved}
use Rattle.pc_may_send.proofs.settling.are_own_resolved.Given as goal

abbrev pub invariant-loop-lock : goal.invariant-loop-lock
invariant-loop-lock l = (k : Known) → KeepsKnowledge k l.known → All (λ key. Any (WasResolved l.id key) k.heard) (map deref l.yielded)
