use Rattle.std.proofs.Common.{◌≡◌, length, take, ◌-◌, ◌≤◌}
use Rattle.std.specs.Io.KnownBytes.{Appends}
use Rattle.pc_io.proofs.writing.write_all.Given as goal

-- the sink took the bytes so far, and nothing failed
abbrev pub invariant-loop-written : goal.invariant-loop-written
invariant-loop-written g l =
    let sink = g.K.Sink in
    record {
      within : l.written ≤ length l.bytes;
      sent : Appends (sink.taken l.fn.sink) (sink.taken l.sink) (take l.written l.bytes);
      count : sink.faults l.sink ≡ sink.faults l.fn.sink;
    }

abbrev pub decreases-loop-written : goal.decreases-loop-written
decreases-loop-written g l = length l.bytes - l.written
