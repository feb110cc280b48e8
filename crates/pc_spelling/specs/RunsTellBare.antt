-- A law of runs: no row that a client is told has an origin, so that the text of a run loses nothing. Own profile.
use Rattle.std.specs.Prelude.{List}
use Rattle.pc_base.specs.declared.entry.Entry.{Entry}
use Rattle.pc_proto.specs.declared.event.Event.{Event}
use Rattle.pc_journal.specs.ToldRows.{AllTellBare}
use Rattle.pc_world.specs.Local.{Head}
use Rattle.pc_world.specs.Run.{IsRun}

-- In a run the rows of each Tell have no origin.
abbrev pub RunsTellBare : Type 0
RunsTellBare = (head : Head) (history : List (Entry Event)) → IsRun head history → AllTellBare history
