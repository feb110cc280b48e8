-- A law of reading: what was printed is read again, the head, each entry at its line, and the line `report`. Own profile.
use Rattle.std.specs.Prelude.{◌≡◌, ℕ, ◌+◌, List, [], ◌∷◌, ◌++◌, length}
use Rattle.pc_base.specs.declared.entry.Entry.{Entry}
use Rattle.pc_proto.specs.declared.event.Event.{Event}
use Rattle.pc_journal.specs.FitsJournal.{FitsEntries, FitsHead}
use Rattle.pc_spelling.specs.OneToOne.{journal_then}
use Rattle.pc_read.specs.Items.{Item, Head, Line, ReportWord, head_items, row_items, text_lines}

-- The entries, each at its line.
abbrev pub at_lines : ℕ → List (Entry Event) → List Item
at_lines n [] = []
at_lines n (entry ∷ entries) = Line n entry ∷ at_lines (n + 1) entries

-- From the text of a head and a history that have a spelling, with anything below the line `report`, just these are read.
abbrev pub JournalsAreRead : Type 0
JournalsAreRead =
    (splits : List (List ℕ)) (sessions recoverers : ℕ) (entries : List (Entry Event)) (below : List ℕ)
    → FitsHead splits sessions recoverers → FitsEntries entries
    → head_items (text_lines (journal_then splits sessions recoverers entries below))
    ≡ Head splits sessions recoverers ∷ (at_lines 4 entries ++ (ReportWord ∷ row_items (length entries + 5) (text_lines below)))
