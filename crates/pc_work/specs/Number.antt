-- A number in a text: decimal digits, with no zero in front of another digit.
use Rattle.std.specs.Prelude.{ℕ, ◌-◌, ◌^◌, Bool, ◌&&◌, ◌||◌, ◌==◌, List, length, slice_index, nat_le, not, min, Option, Some, None, if◌then◌else◌}
use Rattle.std.specs.Char.{is_ascii_digit}
use Rattle.std.specs.List.{list_all}
use Rattle.std.specs.Str.Parse.{digits_value}

-- The text spells a number.
abbrev pub is_number : List ℕ → Bool
is_number text = nat_le 1 (length text) && list_all is_ascii_digit text && (length text == 1 || not (slice_index text 0 == 48))

-- The number that a text spells, held at the greatest of 32 bits, which numbers nobody.
unfoldable pub number_in : List ℕ → Option ℕ
number_in text = if is_number text then Some (min (digits_value 10 text) (2 ^ 32 - 1)) else None
