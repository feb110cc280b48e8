use Rattle.std.proofs.Common.{All, take}
use Rattle.pc_world.specs.Known.Writes.{IsProvedBy}
use Rattle.pc_knowledge.proofs.kinds.are_proved_by.Given as goal

abbrev pub invariant-loop-write : goal.invariant-loop-write
invariant-loop-write l = All (IsProvedBy l.ts) (take l.write-index l.writes)
