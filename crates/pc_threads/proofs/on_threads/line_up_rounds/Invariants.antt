use Rattle.std.proofs.Common.{◌≡◌}
use Rattle.pc_scripted.specs.Scripted.{own_list}
use Rattle.pc_threads.proofs.Places.{ZipsBut}
use Rattle.pc_threads.specs.RoundLanes.{WaitsBehindIn}
use Rattle.pc_threads.proofs.on_threads.line_up_rounds.Given as goal

abbrev pub invariant-loop-recoverer : goal.invariant-loop-recoverer
invariant-loop-recoverer g l = ZipsBut (WaitsBehindIn (own_list l.fn.first)) l.fn.recoverers.items l.recoverer-iterator.rest.items l.lanes.items × (l.first ≡ l.fn.first)
