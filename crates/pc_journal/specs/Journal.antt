-- How a whole journal is spelled: three lines of head, and one line for each entry. Own profile.
use Rattle.std.specs.Prelude.{ℕ, ◌+◌, List, [], ◌∷◌, length, map, codes}
use Rattle.std.specs.List.{join_with_byte}
use Rattle.std.specs.Fmt.{decimal}
use Rattle.pc_base.specs.declared.entry.Entry.{Entry}
use Rattle.pc_proto.specs.declared.event.Event.{Event}
use Rattle.pc_journal.specs.Event.{entry_text}
use Rattle.pc_journal.specs.Optional.{key_text}
use Rattle.pc_journal.specs.Side.{◌·◌, ◌⏎◌}

-- How many ranges there are, and the keys at which they are split: `3 g m`.
abbrev pub splits_text : List (List ℕ) → List ℕ
splits_text splits = join_with_byte 32 (decimal (length splits + 1) ∷ map key_text splits)

-- The second line: `ranges 3 g m`.
abbrev pub ranges_text : List (List ℕ) → List ℕ
ranges_text splits = codes "ranges" · splits_text splits

-- The third line: how many sessions and how many recoverers there are, `actors 2 1`.
abbrev pub actors_text : ℕ → ℕ → List ℕ
actors_text sessions recoverers = codes "actors" · decimal sessions · decimal recoverers

-- A line for each entry, in their order.
abbrev pub entries_text : List (Entry Event) → List ℕ
entries_text [] = []
entries_text (entry ∷ below) = entry_text entry ⏎ entries_text below

-- The three lines of the head, and then what follows them.
abbrev pub head_then : List (List ℕ) → ℕ → ℕ → List ℕ → List ℕ
head_then splits sessions recoverers below = codes "journal 1" ⏎ ranges_text splits ⏎ actors_text sessions recoverers ⏎ below

-- The whole journal: `journal 1`, the ranges, the actors, and a line for each entry.
abbrev pub journal_text : List (List ℕ) → ℕ → ℕ → List (Entry Event) → List ℕ
journal_text splits sessions recoverers entries = head_then splits sessions recoverers (entries_text entries)
