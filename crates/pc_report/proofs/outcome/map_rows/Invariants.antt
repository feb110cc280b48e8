-- The map after the committed transactions so far.
use Rattle.std.proofs.Common.{◌≡◌, [], fold, take}
use Rattle.pc_report.specs.Rows.{map_with_puts}
use Rattle.pc_report.proofs.outcome.map_rows.Given as goal

abbrev pub invariant-loop-id : goal.invariant-loop-id
invariant-loop-id l = l.map.entries ≡ fold (map_with_puts l.writes) [] (take l.id-index l.order)
