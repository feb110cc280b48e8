use Rattle.std.proofs.Common.{◌≡◌, ◌++◌, None, drop}
use Rattle.pc_call.specs.Pieces.{scan_messages, spans_from}
use Rattle.pc_call.proofs.pieces.pieces.Given as goal

abbrev pub invariant-loop-split : goal.invariant-loop-split
invariant-loop-split l =
    scan_messages l.txn (spans_from None l.split-items l.from l.to)
    ≡ l.wave ++ scan_messages l.txn (spans_from l.low (drop l.split-index l.split-items) l.from l.to)
