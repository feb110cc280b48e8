-- A key's bytes are ASCII, and so a text.
use Rattle.std.proofs.Common.{◌≡◌, ℕ, zero, suc, ◌<◌, ◌≤◌, ◌||◌, ◌==◌, Bool, true, false, List, [], ◌∷◌, ◌⊎◌, inl, inr, IsTrue, nat_le, refl, arith}
use Rattle.std.proofs.lemmas.Bool.{and_parts, eqb-true, leb-true}
use Rattle.std.proofs.lemmas.Str.{IsUtf8-from_ascii}
use Rattle.std.specs.List.{list_all}
use Rattle.std.specs.Str.{IsAscii, IsUtf8}
use Rattle.pc_base.specs.Key.{is_between, is_key_byte}

or-parts : (a b : Bool) → (a || b) ≡ true → (a ≡ true) ⊎ (b ≡ true)
or-parts true b h = inl refl
or-parts false b h = inr h

under : (low high byte : ℕ) → high < 128 → is_between low high byte ≡ true → byte < 128
under low high byte ascii h = let top : byte ≤ high = leb-true byte high (and_parts (nat_le low byte) (nat_le byte high) h).1 in omega arith

key-ascii : (byte : ℕ) → is_key_byte byte ≡ true → byte < 128
key-ascii byte h =
    elim (or-parts (is_between 97 122 byte || is_between 65 90 byte || is_between 46 57 byte) (byte == 95) h) [
      | inl range ↦ elim (or-parts (is_between 97 122 byte || is_between 65 90 byte) (is_between 46 57 byte) range) [
        | inl letter ↦ elim (or-parts (is_between 97 122 byte) (is_between 65 90 byte) letter) [
          | inl small ↦ under 97 122 byte (omega arith) small
          | inr great ↦ under 65 90 byte (omega arith) great
        ]
        | inr digit ↦ under 46 57 byte (omega arith) digit
      ]
      | inr line ↦ let same : byte ≡ 95 = eqb-true byte 95 line in omega (arith, same)
    ]

all-ascii : (bytes : List ℕ) → list_all is_key_byte bytes ≡ true → IsAscii bytes
all-ascii [] e i = omega arith
all-ascii (byte ∷ bytes) e zero = key-ascii byte (and_parts (is_key_byte byte) (list_all is_key_byte bytes) e).0
all-ascii (byte ∷ bytes) e (suc i) = all-ascii bytes (and_parts (is_key_byte byte) (list_all is_key_byte bytes) e).1 i

pub key_is_text : (bytes : List ℕ) → IsTrue (list_all is_key_byte bytes) → IsUtf8 bytes
key_is_text bytes allowed = IsUtf8-from_ascii bytes (all-ascii bytes allowed)
