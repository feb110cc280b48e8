-- What reading a source to its end takes from it. What a source does not tell binds nothing.
use Rattle.std.specs.Prelude.{◌≡◌, ℕ, ◌≤◌, List, [], length, drop, ⊤, None, Some}
use Rattle.std.specs.declared.option.Option.{Option}
use Rattle.std.specs.Io.KnownBytes.{Consumes}

-- the bytes are all those that were left
abbrev pub IsAllOf : Option (List ℕ) → List ℕ → Type 0
IsAllOf None bytes = ⊤
IsAllOf (Some left) bytes = bytes ≡ left

-- a source that tells its bytes has none left
abbrev pub HasNoneLeft : Option (List ℕ) → Option (List ℕ) → Type 0
HasNoneLeft None rest = ⊤
HasNoneLeft (Some left) rest = rest ≡ Some []

-- what was read is the front of what was left, of at most so many bytes
abbrev pub TakesAtMost : ℕ → Option (List ℕ) → Option (List ℕ) → Type 0
TakesAtMost most left rest = (front : List ℕ) × Consumes left rest front × (length front ≤ most)

-- of the bytes that were left exactly so many were read, from the front
abbrev pub TakesExactly : ℕ → List ℕ → Option (List ℕ) → Type 0
TakesExactly count left rest = (count ≤ length left) × (rest ≡ Some (drop count left))
