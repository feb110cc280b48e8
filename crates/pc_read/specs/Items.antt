-- The lines of a journal and its report, as they are read from a text one after the other. Own profile.
use Rattle.std.specs.Prelude.{ℕ, ◌+◌, ◌==◌, if◌then◌else◌, List, [], ◌∷◌, codes, bytes_eq}
use Rattle.std.specs.List.{slice_split}
use Rattle.std.specs.Option.{option_map_or}
use Rattle.pc_base.specs.declared.entry.Entry.{Entry}
use Rattle.pc_proto.specs.declared.event.Event.{Event}
use Rattle.pc_spelling.specs.ReadingHead.{actors_at, ranges_at}
use Rattle.pc_spelling.specs.ReadingLines.{entry_at}
use Rattle.pc_spelling.specs.ReadingReport.{is_report_row}

-- What is read of one line, or of the three lines of the head. A malformed line is named by its number, from 1.
pub data Item : Type 0 where
  Head : (splits : List (List ℕ)) (sessions recoverers : ℕ) → Item
  Line : (line : ℕ) (entry : Entry Event) → Item
  ReportWord : Item
  Row : (text : List ℕ) → Item
  End : Item
  Malformed : (line : ℕ) → Item

-- A text's lines: what stands before each of its line feeds, and what stands behind the last.
abbrev pub text_lines : List ℕ → List (List ℕ)
text_lines bs = slice_split (λ b. b == 10) bs

-- Behind the line `end` stands nothing.
unfoldable pub over_items : ℕ → List (List ℕ) → List Item
over_items n ([] ∷ []) = []
over_items n other = Malformed n ∷ []

-- Lines of a report in any order, and then the line `end`. A line without its line feed is none.
unfoldable pub row_items : ℕ → List (List ℕ) → List Item
row_items n (line ∷ next ∷ below) =
    if bytes_eq line (codes "end") then End ∷ over_items (n + 1) (next ∷ below)
    else if is_report_row line then Row line ∷ row_items (n + 1) (next ∷ below)
    else Malformed n ∷ []
row_items n other = Malformed n ∷ []

-- Entries, and then the line `report`.
unfoldable pub entry_items : ℕ → List (List ℕ) → List Item
entry_items n (line ∷ next ∷ below) =
    if bytes_eq line (codes "report") then ReportWord ∷ row_items (n + 1) (next ∷ below)
    else option_map_or (λ entry. Line n entry ∷ entry_items (n + 1) (next ∷ below)) (entry_at line) (Malformed n ∷ [])
entry_items n other = Malformed n ∷ []

-- The three lines of the head, and then the entries.
unfoldable pub third_items : List (List ℕ) → List (List ℕ) → List Item
third_items splits (line ∷ next ∷ below) =
    option_map_or (λ counts. Head splits counts.0 counts.1 ∷ entry_items 4 (next ∷ below)) (actors_at line) (Malformed 3 ∷ [])
third_items splits other = Malformed 3 ∷ []

unfoldable pub second_items : List (List ℕ) → List Item
second_items (line ∷ next ∷ below) =
    option_map_or (λ splits. third_items splits (next ∷ below)) (ranges_at line) (Malformed 2 ∷ [])
second_items other = Malformed 2 ∷ []

unfoldable pub head_items : List (List ℕ) → List Item
head_items (line ∷ next ∷ below) = if bytes_eq line (codes "journal 1") then second_items (next ∷ below) else Malformed 1 ∷ []
head_items other = Malformed 1 ∷ []
