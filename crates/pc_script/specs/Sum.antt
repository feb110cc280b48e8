-- The sum that an add puts. Own profile.
use Rattle.std.specs.Prelude.{ℕ, List, Option, None, Some, ℤ, pos, ◌+ℤ◌, cond}
use Rattle.std.specs.Fmt.{signed_decimal}
use Rattle.std.specs.Int.{saturate_signed, w64}
use Rattle.std.specs.Str.{bytes_eq}
use Rattle.std.specs.Str.Parse.{signed_digits_value}

-- The number of 64 bits that is nearest to this one.
abbrev pub held_number : ℤ → ℤ
held_number number = saturate_signed w64 number

-- The number of 64 bits whose spelling in decimal the text is, and 0 where it is the spelling of none.
abbrev pub signed_number_in : List ℕ → ℤ
signed_number_in text = let number = held_number (signed_digits_value 10 text) in cond (bytes_eq (signed_decimal number) text) number (pos 0)

-- What was told, read as a number: a value that is absent is 0.
abbrev pub number_told : Option (List ℕ) → ℤ
number_told None = pos 0
number_told (Some value) = signed_number_in value

-- The sum of what was told and the amount, held at the ends of 64 bits, in decimal.
abbrev pub sum_told : Option (List ℕ) → ℤ → List ℕ
sum_told told amount = signed_decimal (held_number (number_told told +ℤ amount))
