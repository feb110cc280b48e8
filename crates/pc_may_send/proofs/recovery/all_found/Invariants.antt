use Rattle.std.proofs.Common.{All, Any, take}
use Rattle.pc_world.specs.Send.Recovery.{WasFound}
use Rattle.pc_may_send.proofs.recovery.all_found.Given as goal

abbrev pub invariant-loop-write : goal.invariant-loop-write
invariant-loop-write l = All (λ w. Any (WasFound l.id l.epoch l.ts w) l.heard) (take l.write-index l.writes)
