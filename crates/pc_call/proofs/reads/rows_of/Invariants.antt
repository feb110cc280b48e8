use Rattle.std.proofs.Common.{◌≡◌, take}
use Rattle.std.specs.List.{flat_map}
use Rattle.pc_call.specs.Reading.{rows_found}
use Rattle.pc_call.proofs.reads.rows_of.Given as goal

abbrev pub invariant-loop-message : goal.invariant-loop-message
invariant-loop-message l = l.rows ≡ flat_map rows_found (take l.message-index l.messages)
