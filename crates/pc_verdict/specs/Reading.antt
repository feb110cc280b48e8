-- What a journal in memory has of the items that were read for it. Own profile.
use Rattle.std.specs.Prelude.{◌≡◌, ℕ, ◌+◌, ◌^◌, ◌<◌, Option, None, Some, List, All, Contains, codes, length, map, ⊤}
use Rattle.std.specs.List.{filter_map}
use Rattle.pc_base.specs.declared.entry.Entry.{Entry}
use Rattle.pc_proto.specs.declared.event.Event.{Event}
use Rattle.pc_verdict.specs.declared.body.Body.{Body}
use Rattle.pc_read.specs.Items.{Item, Head, Line, ReportWord, Row, End, Malformed, head_items}
use Rattle.pc_verdict.specs.declared.journal.Journal.{Journal}
use Rattle.pc_verdict.specs.declared.journal.Unread.{Unread}
use Rattle.pc_verdict.specs.declared.journal.Unread.TheVariants as unreads
use Rattle.pc_verdict.specs.ReadAs.{IsReadAs, report_lines}

-- The entry of an item, if it has one.
abbrev pub entry_in : Item → Option (Entry Event)
entry_in (Line line entry) = Some entry
entry_in (Head splits sessions recoverers) = None
entry_in ReportWord = None
entry_in (Row text) = None
entry_in End = None
entry_in (Malformed line) = None

-- The row of an item, if it is one.
abbrev pub row_in : Item → Option (List ℕ)
row_in (Row text) = Some text
row_in (Head splits sessions recoverers) = None
row_in (Line line entry) = None
row_in ReportWord = None
row_in End = None
row_in (Malformed line) = None

-- The line of a report that an item is, if it is one.
abbrev pub report_line_in : Item → Option (List ℕ)
report_line_in ReportWord = Some (codes "report")
report_line_in (Row text) = Some text
report_line_in End = Some (codes "end")
report_line_in (Head splits sessions recoverers) = None
report_line_in (Line line entry) = None
report_line_in (Malformed line) = None

-- The item is a line within the grammar.
abbrev pub IsWithinGrammar : Item → Type 0
IsWithinGrammar (Malformed line) = ⊥
IsWithinGrammar (Head splits sessions recoverers) = ⊤
IsWithinGrammar (Line line entry) = ⊤
IsWithinGrammar ReportWord = ⊤
IsWithinGrammar (Row text) = ⊤
IsWithinGrammar End = ⊤

-- These are the entries and the report's lines of the items, all of which are within the grammar.
pub record IsBodyOf (items : List Item) (body : Body) : Type 0 where
  pub entries : body.entries ≡ filter_map entry_in items
  pub report : map (λ line. line.now) body.report ≡ filter_map report_line_in items
  pub each : All IsWithinGrammar items

-- The items are what is left of a text whose head is still to be read.
pub record AreOfHead (items : List Item) : Type 0 where
  pub lines : List (List ℕ)
  pub are : items ≡ head_items lines

-- The journal is what the text is read as, with the lines of its report as they stand there. It has no more lines than can
-- be counted.
pub record IsReadFrom (bytes : List ℕ) (journal : Journal) : Type 0 where
  pub rows : List (List ℕ)
  pub read : IsReadAs bytes journal.splits journal.sessions journal.recoverers journal.body.entries rows
  pub lines : map (λ line. line.now) journal.body.report ≡ report_lines rows
  pub room : length journal.body.entries + length journal.body.report + 4 < 2 ^ 64

-- The journal was read from some text.
pub record IsReadFromSome (journal : Journal) : Type 0 where
  pub bytes : List ℕ
  pub from : IsReadFrom bytes journal

-- Where not all items are within the grammar, the first line that is not is named.
abbrev pub NamesMalformed : List Item → Unread → Type 0
NamesMalformed items (unreads.Malformed line) = Contains items (Malformed line)
NamesMalformed items unreads.NoMemory = ⊤
