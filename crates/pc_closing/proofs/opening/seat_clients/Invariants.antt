use Rattle.pc_closing.proofs.Seating.{AreSeatedUpTo}
use Rattle.pc_closing.proofs.opening.seat_clients.Given as goal

abbrev pub invariant-loop-index : goal.invariant-loop-index
invariant-loop-index g l = AreSeatedUpTo l.initial.opener l.opener l.actors.items l.from l.index
