-- The report of one session that ran plainly: what a plain map would report.
use Rattle.std.specs.Prelude.{◌≡◌, List, [], fold, map}
use Rattle.pc_base.specs.declared.entry.Entry.{Entry}
use Rattle.pc_proto.specs.declared.event.Event.{Event}
use Rattle.pc_report.specs.ReportOf.{report_of}
use Rattle.pc_serial.specs.Laws.{committed_as_begun}
use Rattle.pc_world.specs.Local.{Head}
use Rattle.pc_world.specs.MapRun.{Map, map_after}
use Rattle.pc_world.specs.Operations.{Operation, operations_of}

-- What a plain map holds after these transactions, one after another, from the empty map on.
abbrev pub held_after : List (List Operation) → Map
held_after txns = fold (fold map_after) [] txns

-- The report lists the session's committed transactions in the order in which they were begun, and its map is what a plain map holds after
-- them, one after another.
pub record ReportsPlainly (head : Head) (entries : List (Entry Event)) : Type 0 where
  pub committed : map (λ row. row.id) (report_of head entries).committed ≡ committed_as_begun head entries
  pub held : (report_of head entries).map ≡ held_after (map (operations_of entries) (committed_as_begun head entries))
