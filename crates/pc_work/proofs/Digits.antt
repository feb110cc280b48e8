-- The number that a text of digits spells, as `parse` reads it.
use Rattle.std.proofs.Common.{◌≡◌, ℕ, ◌-◌, ◌^◌, ◌<◌, ◌&&◌, ◌||◌, ◌==◌, not, min, nat_le, true, cond, List, length, slice_index, Some, None, Result, Ok, Err, sym, ap, ◌∙◌, arith, rules}
use Rattle.std.specs.Char.{is_ascii_digit}
use Rattle.std.specs.List.{list_all}
use Rattle.std.specs.Result.{OkIff, result_unwrap_or}
use Rattle.std.specs.Str.Parse.{ParsesUnsigned, digits_value}
use Rattle.std.proofs.lemmas.Bool.{and_parts, leb-true}
use Rattle.std.proofs.lemmas.Str.Parse.{IsNumeralModel, IsDigitsTest, numerals_by_value, parse_digits}
use Rattle.pc_work.specs.Number.{is_number, number_in}

tells : IsDigitsTest (λ text. list_all is_ascii_digit text ≡ true)
tells = search rules

own : IsNumeralModel (λ text. list_all is_ascii_digit text ≡ true) (digits_value 10)
own = numerals_by_value (λ text. list_all is_ascii_digit text ≡ true) tells

held : {E : Type 0} (some : ℕ) (value : ℕ) (parsed : Result ℕ E) → 0 < some → OkIff parsed ((0 < some) × (value < 2 ^ 32)) value → result_unwrap_or parsed (2 ^ 32 - 1) ≡ min value (2 ^ 32 - 1)
held some value (Ok n) is_some h = let e : n ≡ value = h.1 in let below : value < 2 ^ 32 = h.0.1 in omega arith
held some value (Err fault) is_some h =
    let past : (value < 2 ^ 32) → ⊥ = λ below. h (is_some, below) in
    omega arith

-- What `parse` answers to a number: what the text spells, where that is of 32 bits.
pub digits_parsed : {E : Type 0} (text : List ℕ) (parsed : Result ℕ E) → is_number text ≡ true → ParsesUnsigned 32 10 text parsed → OkIff parsed ((0 < length text) × (digits_value 10 text < 2 ^ 32)) (digits_value 10 text)
digits_parsed text parsed e parses =
    let parts = and_parts (nat_le 1 (length text) && list_all is_ascii_digit text) (length text == 1 || not (slice_index text 0 == 48)) e in
    let both = and_parts (nat_le 1 (length text)) (list_all is_ascii_digit text) parts.0 in
    parse_digits own 32 text parsed parses both.1

-- What `parse` answers, held at the greatest number, is the number that the text spells.
pub number_parsed : {E : Type 0} (text : List ℕ) (parsed : Result ℕ E) → is_number text ≡ true → ParsesUnsigned 32 10 text parsed → Some (result_unwrap_or parsed (2 ^ 32 - 1)) ≡ number_in text
unfolding number_in
number_parsed text parsed e parses =
    let parts = and_parts (nat_le 1 (length text) && list_all is_ascii_digit text) (length text == 1 || not (slice_index text 0 == 48)) e in
    let both = and_parts (nat_le 1 (length text)) (list_all is_ascii_digit text) parts.0 in
    let some : 0 < length text = leb-true 1 (length text) both.0 in
    let is : result_unwrap_or parsed (2 ^ 32 - 1) ≡ min (digits_value 10 text) (2 ^ 32 - 1) = held (length text) (digits_value 10 text) parsed some (digits_parsed text parsed e parses) in
    let spelled : cond (is_number text) (Some (min (digits_value 10 text) (2 ^ 32 - 1))) None ≡ Some (min (digits_value 10 text) (2 ^ 32 - 1)) = ap (λ test. cond test (Some (min (digits_value 10 text) (2 ^ 32 - 1))) None) e in
    ap Some is ∙ sym spelled
