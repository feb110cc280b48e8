use Rattle.std.proofs.Common.{◌↔◌, drop}
use Rattle.pc_world.specs.Send.Recovery.{IsRefusedAfter}
use Rattle.pc_may_send.proofs.recovery.is_refused_after.Given as goal

abbrev pub invariant-loop-place : goal.invariant-loop-place
invariant-loop-place l = IsRefusedAfter l.id l.epoch l.seq (drop l.place l.heard) ↔ IsRefusedAfter l.id l.epoch l.seq l.heard
