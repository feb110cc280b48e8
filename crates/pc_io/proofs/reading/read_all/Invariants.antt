use Rattle.std.proofs.Common.{◌≡◌, vec_len, ◌-◌, ◌≤◌}
use Rattle.std.specs.Io.KnownBytes.{Consumes}
use Rattle.pc_io.proofs.reading.read_all.Given as goal

-- the bytes so far are what the source lost, and nothing failed
abbrev pub invariant-loop-bytes : goal.invariant-loop-bytes
invariant-loop-bytes g l =
    let source = g.S.Source in
    record {
      within : vec_len l.bytes ≤ l.limit;
      read : Consumes (source.left l.fn.source) (source.left l.source) l.bytes.items;
      count : source.faults l.source ≡ source.faults l.fn.source;
    }

abbrev pub decreases-loop-bytes : goal.decreases-loop-bytes
decreases-loop-bytes g l = l.limit - vec_len l.bytes
