use Rattle.std.proofs.Common.{◌≡◌, ◌↔◌, drop}
use Rattle.pc_world.specs.Known.Writes.{listed_as, unproved}
use Rattle.pc_may_send.proofs.stage.are_in_flight.Given as goal

abbrev pub invariant-loop-write : goal.invariant-loop-write
invariant-loop-write l = (l.listed ≡ listed_as (unproved l.writes)) ↔ (l.rest ≡ listed_as (unproved (drop l.write-index l.writes)))
