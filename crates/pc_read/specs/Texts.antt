-- What the slices of a borrowed value spell. Own profile.
use Rattle.std.specs.Prelude.{ℕ, ◌==◌, List, Option, None, Some, option_map}
use Rattle.std.specs.Borrow.{Bor}
use Rattle.std.specs.List.{slice_split}
use Rattle.pc_spelling.specs.ReadingHead.{splits_at}
use Rattle.pc_spelling.specs.Reading.{key_at, value_bytes_at}

-- The key that a slice is.
abbrev pub own_key : Bor (List ℕ) → Option (List ℕ)
own_key slice = key_at slice.now

-- The value whose bytes a slice is.
abbrev pub own_value_bytes : Bor (List ℕ) → Option (List ℕ)
own_value_bytes slice = value_bytes_at slice.now

-- What may be absent, and is there where it is there.
abbrev pub own_option : {A B : Type 0} → (A → Option B) → Option A → Option (Option B)
own_option own None = Some None
own_option own (Some x) = option_map Some (own x)

-- The split keys that bytes spell which begin with the number of ranges.
abbrev pub splits_in : List ℕ → Option (List (List ℕ))
splits_in bytes = splits_at (slice_split (λ b. b == 32) bytes)

-- The same of a slice.
abbrev pub own_splits : Bor (List ℕ) → Option (List (List ℕ))
own_splits slice = splits_in slice.now
