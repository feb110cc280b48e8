use Rattle.std.proofs.Common.{◌≡◌, length}
use Rattle.pc_history_bench.proofs.runs.act_times.Given as goal

-- one entry for each event
abbrev pub invariant-loop-event : goal.invariant-loop-event
invariant-loop-event g l = record {
  id : l.actor.part.id ≡ l.fn.actor.part.id;
  more : length l.actor.part.own ≡ l.event;
}
