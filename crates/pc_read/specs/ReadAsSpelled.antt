-- Laws of reading: what is read of a text is what the text spells. Own profile.
use Rattle.std.specs.Prelude.{◌≡◌, ℕ, ◌+◌, true, List, [], ◌∷◌, ◌++◌, All, codes, length, map}
use Rattle.std.specs.List.{list_all}
use Rattle.pc_base.specs.declared.entry.Entry.{Entry}
use Rattle.pc_proto.specs.declared.event.Event.{Event}
use Rattle.pc_journal.specs.FitsJournal.{FitsEntries, FitsHead}
use Rattle.pc_journal.specs.Side.{◌⏎◌}
use Rattle.pc_spelling.specs.Bytes.{is_line_byte}
use Rattle.pc_spelling.specs.OneToOne.{journal_then}
use Rattle.pc_spelling.specs.ReadingReport.{is_report_row}
use Rattle.pc_read.specs.Items.{Item, Head, ReportWord, Row, End, head_items, row_items, text_lines}
use Rattle.pc_read.specs.JournalsAreRead.{at_lines}

-- The text is the journal of this head and history, which have a spelling, and below the line `report` stands what the rest
-- was read of.
pub record IsJournalOf (bytes : List ℕ) (splits : List (List ℕ)) (sessions recoverers : ℕ) (entries : List (Entry Event)) (rest : List Item) : Type 0 where
  pub below : List ℕ
  pub text : bytes ≡ journal_then splits sessions recoverers entries below
  pub fitting_head : FitsHead splits sessions recoverers
  pub fitting_entries : FitsEntries entries
  pub read_below : rest ≡ row_items (length entries + 5) (text_lines below)

-- Where a head, some entries and the line `report` are read of a text, it is their journal.
abbrev pub JournalsAreSpelled : Type 0
JournalsAreSpelled =
    (bytes : List ℕ) (splits : List (List ℕ)) (sessions recoverers : ℕ) (entries : List (Entry Event)) (rest : List Item)
    → head_items (text_lines bytes) ≡ Head splits sessions recoverers ∷ (at_lines 4 entries ++ (ReportWord ∷ rest))
    → IsJournalOf bytes splits sessions recoverers entries rest

-- A line for each row, and the line `end`.
abbrev pub rows_then_end : List (List ℕ) → List ℕ
rows_then_end [] = codes "end" ⏎ []
rows_then_end (row ∷ rows) = row ⏎ rows_then_end rows

-- The text may stand on a line of a report.
pub record IsRow (text : List ℕ) : Type 0 where
  pub allowed : is_report_row text ≡ true
  pub line : list_all is_line_byte text ≡ true

-- The lines of a report are read as its rows.
abbrev pub ReportsAreRead : Type 0
ReportsAreRead =
    (n : ℕ) (rows : List (List ℕ)) → All IsRow rows
    → row_items n (text_lines (rows_then_end rows)) ≡ map Row rows ++ (End ∷ [])

-- Where rows and the line `end` are read of a text, it is their lines.
abbrev pub ReportsAreSpelled : Type 0
ReportsAreSpelled =
    (n : ℕ) (rows : List (List ℕ)) (bytes : List ℕ)
    → row_items n (text_lines bytes) ≡ map Row rows ++ (End ∷ []) → bytes ≡ rows_then_end rows
