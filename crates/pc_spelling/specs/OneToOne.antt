-- The laws of the text: an entry is read as it was printed, and a journal spells one head and one history. Own profile.
use Rattle.std.specs.Prelude.{◌≡◌, ℕ, List, ◌++◌, Some, codes}
use Rattle.pc_base.specs.declared.entry.Entry.{Entry}
use Rattle.pc_proto.specs.declared.event.Event.{Event}
use Rattle.pc_journal.specs.Event.{entry_text}
use Rattle.pc_journal.specs.Fits.{FitsEntry}
use Rattle.pc_journal.specs.Journal.{journal_text}
use Rattle.pc_journal.specs.Side.{◌⏎◌}
use Rattle.pc_journal.specs.FitsJournal.{FitsHead, FitsEntries}
use Rattle.pc_spelling.specs.ReadingLines.{entry_at}

-- An entry that has a spelling is read from its line.
abbrev pub EntriesAreReadAgain : Type 0
EntriesAreReadAgain = (entry : Entry Event) → FitsEntry entry → entry_at (entry_text entry) ≡ Some entry

-- A line that is read as an entry is the line of that entry, which has a spelling.
abbrev pub EntriesAreSpelled : Type 0
EntriesAreSpelled = (line : List ℕ) (entry : Entry Event) → entry_at line ≡ Some entry → (line ≡ entry_text entry) × FitsEntry entry

-- A journal, the line `report`, and what stands below it.
abbrev pub journal_then : List (List ℕ) → ℕ → ℕ → List (Entry Event) → List ℕ → List ℕ
journal_then splits sessions recoverers entries below =
    journal_text splits sessions recoverers entries ++ (codes "report" ⏎ below)

-- What two texts that are one have in common: the head, the history, and what stands below the line `report`.
pub record SameJournal (splits others : List (List ℕ)) (sessions many recoverers more : ℕ) (entries events : List (Entry Event)) (below under : List ℕ) : Type 0 where
  pub same_splits : splits ≡ others
  pub same_sessions : sessions ≡ many
  pub same_recoverers : recoverers ≡ more
  pub same_entries : entries ≡ events
  pub same_below : below ≡ under

-- Where a journal with what stands below it is also that of another head and history, both of which have a spelling, the
-- two heads, the two histories and what stands below them are the same.
abbrev pub IsOneToOne : Type 0
IsOneToOne =
    (splits others : List (List ℕ)) (sessions many recoverers more : ℕ) (entries events : List (Entry Event)) (below under : List ℕ)
    → FitsHead splits sessions recoverers → FitsHead others many more
    → FitsEntries entries → FitsEntries events
    → journal_then splits sessions recoverers entries below ≡ journal_then others many more events under
    → SameJournal splits others sessions many recoverers more entries events below under
