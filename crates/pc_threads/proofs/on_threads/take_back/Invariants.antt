use Rattle.pc_threads.proofs.Places.{ZipsBut}
use Rattle.pc_threads.specs.Lanes.{HasLeftLane}
use Rattle.pc_threads.proofs.on_threads.take_back.Given as goal

abbrev pub invariant-loop-lane : goal.invariant-loop-lane
invariant-loop-lane g l = ZipsBut HasLeftLane l.fn.lanes.items l.lane-iterator.rest.items l.sessions.items
