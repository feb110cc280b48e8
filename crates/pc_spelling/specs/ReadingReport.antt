-- Which lines a report may have, in any order. Own profile.
use Rattle.std.specs.Prelude.{ℕ, ◌&&◌, ◌||◌, List, [], Option, None, Some, Bool, false, is_some, codes, bytes_eq}
use Rattle.std.specs.List.{list_all, slice_split}
use Rattle.std.specs.Option.{option_map_or}
use Rattle.std.specs.Prelude.{◌==◌}
use Rattle.pc_spelling.specs.Cutting.{cut, cut_last, ◌&◌, both, word_of}
use Rattle.pc_spelling.specs.Reading.{id_at, key_at, ts_at, value_bytes_at, why_at}

-- A key, a dash, and nothing behind it: `a-`.
abbrev pub is_deletion : Option (List ℕ × List ℕ) → Bool
is_deletion None = false
is_deletion (Some parts) = bytes_eq parts.1 [] && is_some (key_at parts.0)

-- The last write of a key, `a=x`, or its deletion, `a-`.
unfoldable pub is_last_write : List ℕ → Bool
is_last_write bs =
    option_map_or (λ p. is_some (key_at p.0) && is_some (value_bytes_at p.1)) (cut 61 bs) (is_deletion (cut_last 45 bs))

-- A dash for none, or writes with a comma between each two.
abbrev pub are_last_writes : List ℕ → Bool
are_last_writes bs = bytes_eq bs (codes "-") || list_all is_last_write (slice_split (λ b. b == 44) bs)

-- How an open transaction's record stands.
abbrev pub is_record_word : List ℕ → Bool
is_record_word bs = bytes_eq bs (codes "none") || (bytes_eq bs (codes "pending") || bytes_eq bs (codes "staging"))

-- Two parts one space apart.
abbrev pub are_two : (List ℕ → Bool) → (List ℕ → Bool) → List ℕ → Bool
are_two one other bs = option_map_or (λ p. one p.0 && other p.1) (cut 32 bs) false

-- What stands behind the first word of a report's line.
abbrev pub is_row_of : List ℕ → List ℕ → Bool
is_row_of word rest =
    (bytes_eq word (codes "committed") && are_two (λ bs. is_some (id_at bs)) (λ bs. are_two (λ ts. is_some (ts_at ts)) are_last_writes bs) rest)
    || ((bytes_eq word (codes "aborted") && are_two (λ bs. is_some (id_at bs)) (λ bs. is_some (why_at bs)) rest)
    || ((bytes_eq word (codes "open") && are_two (λ bs. is_some (id_at bs)) is_record_word rest)
    || (bytes_eq word (codes "map") && is_some (both 61 key_at value_bytes_at rest))))

-- A line of a report: `committed 1.1 10.0 a=x,b-`, `aborted 1.1 client`, `open 1.1 none`, `map a=x`.
unfoldable pub is_report_row : List ℕ → Bool
is_report_row bs = option_map_or (λ p. is_row_of p.0 p.1) (cut 32 bs) false
