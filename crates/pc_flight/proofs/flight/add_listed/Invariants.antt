use Rattle.std.proofs.Common.{◌≡◌, ◌++◌, map, take}
use Rattle.pc_flight.specs.InFlight.{listed_one}
use Rattle.pc_flight.proofs.flight.add_listed.Given as goal

abbrev pub invariant-loop-write : goal.invariant-loop-write
invariant-loop-write l = l.list ≡ l.initial.list ++ map listed_one (take l.write-index l.writes)
