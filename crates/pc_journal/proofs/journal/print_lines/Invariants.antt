-- What is printed so far is the lines of the first entries, and these have a spelling.
use Rattle.std.proofs.Common.{◌≡◌, ◌++◌, take, All}
use Rattle.std.specs.List.{flat_map}
use Rattle.pc_journal.specs.Event.{entry_line}
use Rattle.pc_journal.specs.ToldRows.{FitsWhereBare}
use Rattle.pc_journal.proofs.journal.print_lines.Given as goal

abbrev pub invariant-loop-entry : goal.invariant-loop-entry
invariant-loop-entry l = record {
  text : l.out.items ≡ l.initial.out.items ++ flat_map entry_line (take l.entry-index l.entries);
  spelled : All FitsWhereBare (take l.entry-index l.entries);
}
