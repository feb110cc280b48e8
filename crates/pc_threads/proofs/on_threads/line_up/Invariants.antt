use Rattle.std.proofs.Common.{◌≡◌}
use Rattle.pc_scripted.specs.Scripted.{own_list}
use Rattle.pc_threads.proofs.Places.{ZipsBut}
use Rattle.pc_threads.specs.Lanes.{StandsBehindIn}
use Rattle.pc_threads.proofs.on_threads.line_up.Given as goal

abbrev pub invariant-loop-other : goal.invariant-loop-other
invariant-loop-other g l = ZipsBut (StandsBehindIn (own_list l.fn.first)) l.fn.others.items l.other-iterator.rest.items l.lanes.items × (l.first ≡ l.fn.first)
