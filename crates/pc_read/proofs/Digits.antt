-- The number that digits write, one digit after the other.
use Rattle.std.proofs.Common.{◌≡◌, ℕ, ◌+◌, ◌-◌, ◌*◌, ◌<◌, ◌≤◌, Bool, true, cond, ltb, List, length, take, get_or, Option, None, Some, sym, ap, ◌∙◌, arith}
use Rattle.std.specs.List.{list_all}
use Rattle.std.specs.Char.{digit_value}
use Rattle.std.specs.Str.Parse.{digits_value}
use Rattle.std.proofs.lemmas.Bool.{le-ltb, leb-true}
use Rattle.std.proofs.lemmas.Int.Digits.{digits_value_more}
use Rattle.std.proofs.lemmas.List.Elements.{All-get_or}
use Rattle.std.proofs.lemmas.List.Sums.{AllPass-from_list_all}
use Rattle.std.proofs.lemmas.Str.{digit_value_digit}
use Rattle.std.proofs.lemmas.Str.Parse.{digits_value-take-le}
use Rattle.pc_spelling.specs.Bytes.{is_digit}
use Rattle.pc_spelling.proofs.ByteClasses.{both_true}

digit_here : (digits : List ℕ) (i : ℕ) → list_all is_digit digits ≡ true → i < length digits → digit_value (get_or digits i 0) ≡ get_or digits i 0 - 48
digit_here digits i all inside =
    let passes : is_digit (get_or digits i 0) ≡ true = All-get_or (λ b. is_digit b ≡ true) digits i 0 inside (AllPass-from_list_all is_digit digits all) in
    let parts = both_true _ _ passes in
    let here = digit_value_digit (get_or digits i 0) (leb-true 48 (get_or digits i 0) parts.0, leb-true (get_or digits i 0) 57 parts.1) in
    omega arith

-- One more digit.
pub value_more : (digits : List ℕ) (i : ℕ) → list_all is_digit digits ≡ true → i < length digits → digits_value 10 (take i digits) * 10 + (get_or digits i 0 - 48) ≡ digits_value 10 (take (i + 1) digits)
value_more digits i all inside =
    sym (digits_value_more 10 digits i inside ∙ ap (λ (n : ℕ). digits_value 10 (take i digits) * 10 + n) (digit_here digits i all inside))

-- What is too great so far is too great as a whole.
pub too_great : (digits : List ℕ) (i limit : ℕ) → limit ≤ digits_value 10 (take i digits) → ◌≡◌ {A = Option ℕ} None (cond (ltb (digits_value 10 digits) limit) (Some (digits_value 10 digits)) None)
too_great digits i limit great =
    let whole : limit ≤ digits_value 10 digits = omega (arith, digits_value-take-le 10 digits i (omega arith)) in
    ap (λ (b : Bool). cond b (Some (digits_value 10 digits)) None) (sym (le-ltb (digits_value 10 digits) limit whole))
