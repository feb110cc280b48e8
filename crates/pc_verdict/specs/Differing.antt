-- The first line in which two lists of lines differ. Own profile.
use Rattle.std.specs.Prelude.{◌≡◌, ◌≢◌, ℕ, true, List, [], All, slice_get, take}
use Rattle.std.specs.List.{flat_map, list_all}
use Rattle.pc_journal.specs.Side.{◌⏎◌}
use Rattle.pc_spelling.specs.Bytes.{is_line_byte}

-- The lists are the same before this place, and differ there; one of them may have ended.
pub record IsFirstDifference (one other : List (List ℕ)) (place : ℕ) : Type 0 where
  pub same : take place one ≡ take place other
  pub differ : slice_get one place ≢ slice_get other place

-- The text of these lines, each with its line feed.
abbrev pub lines_text : List (List ℕ) → List ℕ
lines_text lines = flat_map (λ line. line ⏎ []) lines

-- The text is made of these lines, none of which has a line feed within it.
pub record IsMadeOf (lines : List (List ℕ)) (text : List ℕ) : Type 0 where
  pub whole : text ≡ lines_text lines
  pub each : All (λ line. list_all is_line_byte line ≡ true) lines
