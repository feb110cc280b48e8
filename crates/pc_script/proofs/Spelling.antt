-- How a value is read as a number.
use Rattle.std.proofs.Common.{◌≡◌, ℕ, zero, suc, ◌<◌, ◌≤◌, ◌&&◌, ◌==◌, not, Bool, true, false, cond, List, [], ◌∷◌, Ok, Err, ℤ, pos, negsuc, nat_le, FitsSigned, refl, sym, arith}
use Rattle.std.specs.Fmt.{signed_decimal}
use Rattle.std.specs.Int.{w64}
use Rattle.std.specs.List.{list_all}
use Rattle.std.specs.Str.{IsAscii, IsUtf8, bytes_eq}
use Rattle.std.specs.Str.Parse.{ParsesSigned, signed_digits_value}
use Rattle.std.proofs.lemmas.Bool.{and_parts, leb-true}
use Rattle.std.proofs.lemmas.Fmt.{parse-signed_decimal}
use Rattle.std.proofs.lemmas.Slice.Eq.{bytes_eq-Decides}
use Rattle.std.proofs.lemmas.Str.{IsUtf8-from_ascii}
use Rattle.pc_base.specs.Value.{IsValue, is_value_byte}
use Rattle.pc_script.specs.Sum.{held_number, signed_number_in}

-- ---- a number that is held

held_fits : (z : ℤ) → FitsSigned w64 (held_number z)
held_fits (pos n) = record { sfits = omega arith }
held_fits (negsuc n) = record { sfits = omega arith }

-- ---- a text that is read

none_by : (test : Bool) (number : ℤ) → (test ≡ true → ⊥) → cond test number (pos 0) ≡ pos 0
none_by true number never = absurd (never refl)
none_by false number never = refl

module _ (E : Type 0) (text : List ℕ) where
  -- a text that spells a number is read
  unread : (e : E) → ParsesSigned w64 10 text (Err e) → bytes_eq (signed_decimal (held_number (signed_digits_value 10 text))) text ≡ true → ⊥
  unread e h spelled =
      let z = held_number (signed_digits_value 10 text) in
      let same : signed_decimal z ≡ text = (bytes_eq-Decides (signed_decimal z) text).0 spelled in
      let fits : FitsSigned w64 z = held_fits (signed_digits_value 10 text) in
      let read : Err e ≡ Ok z = parse-signed_decimal w64 z text (Err e) fits fits.sfits (sym same) h in
      absurd cc

  -- what is not read counts as 0
  pub unread_is_none : (e : E) → ParsesSigned w64 10 text (Err e) → pos 0 ≡ signed_number_in text
  unread_is_none e h =
      let z = held_number (signed_digits_value 10 text) in
      sym (none_by (bytes_eq (signed_decimal z) text) z (unread e h))

-- ---- a value's bytes are ASCII

below_ascii : (byte : ℕ) → is_value_byte byte ≡ true → byte < 128
below_ascii byte e =
    let both = and_parts (nat_le 33 byte && nat_le byte 126) (not (byte == 44)) e in
    let within = and_parts (nat_le 33 byte) (nat_le byte 126) both.0 in
    let top : byte ≤ 126 = leb-true byte 126 within.1 in
    omega arith

value_ascii : (bytes : List ℕ) → list_all is_value_byte bytes ≡ true → IsAscii bytes
value_ascii [] e i = omega arith
value_ascii (byte ∷ bytes) e zero = below_ascii byte (and_parts (is_value_byte byte) (list_all is_value_byte bytes) e).0
value_ascii (byte ∷ bytes) e (suc i) = value_ascii bytes (and_parts (is_value_byte byte) (list_all is_value_byte bytes) e).1 i

pub value_is_text : (bytes : List ℕ) → IsValue bytes → IsUtf8 bytes
value_is_text bytes is = IsUtf8-from_ascii bytes (value_ascii bytes is.allowed)
