use Rattle.pc_threads.proofs.Places.{ZipsBut}
use Rattle.pc_threads.specs.RoundLanes.{HasLeftRoundLane}
use Rattle.pc_threads.proofs.on_threads.take_rounds_back.Given as goal

abbrev pub invariant-loop-lane : goal.invariant-loop-lane
invariant-loop-lane g l = ZipsBut HasLeftRoundLane l.fn.lanes.items l.lane-iterator.rest.items l.recoverers.items
