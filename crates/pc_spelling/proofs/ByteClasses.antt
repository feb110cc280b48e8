-- Which bytes a text is made of.
use Rattle.std.proofs.Common.{◌≡◌, ℕ, Bool, true, false, ◌&&◌, ◌||◌, ◌==◌, List, [], ◌∷◌, ◌++◌, refl, sym, ap, ◌∙◌, arith}
use Rattle.std.specs.List.{list_all}
use Rattle.std.proofs.lemmas.Grind.{common_steps}
use Rattle.std.proofs.lemmas.Bool.{true≢false, ne_eqb}
use Rattle.std.proofs.lemmas.List.Folds.{list_all-append}
use Rattle.pc_base.specs.Key.{is_key_byte}
use Rattle.pc_base.specs.Value.{is_value_byte}
use Rattle.pc_spelling.specs.Bytes.{is_digit, is_origin_byte, is_part_byte, is_line_byte}

-- Each byte of the first class is of the second.
pub record IsWithin (inner outer : ℕ → Bool) : Type 0 where
  pub each : (byte : ℕ) → inner byte ≡ true → outer byte ≡ true

pub digits_in_keys : IsWithin is_digit is_key_byte
digits_in_keys = record { each = λ b h. grind (arith, common_steps) }

pub keys_in_values : IsWithin is_key_byte is_value_byte
keys_in_values = record { each = λ b h. grind (arith, common_steps) }

pub keys_in_origins : IsWithin is_key_byte is_origin_byte
keys_in_origins = record { each = λ b h. ap (λ t. t || (b == 45)) h }

pub origins_in_values : IsWithin is_origin_byte is_value_byte
origins_in_values = record { each = λ b h. grind (arith, common_steps) }

pub values_in_parts : IsWithin is_value_byte is_part_byte
values_in_parts = record { each = λ b h. grind (arith, common_steps) }

pub parts_in_lines : IsWithin is_part_byte is_line_byte
parts_in_lines = record { each = λ b h. grind (arith, common_steps) }

pub within_both : {one two three : ℕ → Bool} → IsWithin one two → IsWithin two three → IsWithin one three
within_both first second = record { each = λ b h. second.each b (first.each b h) }

pub both_true : (a b : Bool) → (a && b) ≡ true → (a ≡ true) × (b ≡ true)
both_true true b h = (refl, h)
both_true false b h = absurd cc

pub true_both : (a b : Bool) → a ≡ true → b ≡ true → (a && b) ≡ true
true_both a b p q = rw (p, q)

pub all_within : {inner outer : ℕ → Bool} → IsWithin inner outer → (bs : List ℕ) → list_all inner bs ≡ true → list_all outer bs ≡ true
all_within within [] h = refl
all_within {inner} {outer} within (b ∷ bs) h =
    let p = both_true (inner b) (list_all inner bs) h in
    true_both (outer b) (list_all outer bs) (within.each b p.0) (all_within within bs p.1)

pub all_joined : (class : ℕ → Bool) (xs ys : List ℕ) → list_all class xs ≡ true → list_all class ys ≡ true → list_all class (xs ++ ys) ≡ true
all_joined class xs ys p q = list_all-append class xs ys ∙ true_both (list_all class xs) (list_all class ys) p q

-- A byte outside the class is no byte of it.
pub is_other : (class : ℕ → Bool) (byte b : ℕ) → class byte ≡ false → class b ≡ true → (b == byte) ≡ false
is_other class byte b out here = ne_eqb b byte (λ e. true≢false (sym here ∙ ap class e ∙ out))
