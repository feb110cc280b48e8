-- The parts of a line, one space apart.
use Rattle.std.proofs.Common.{ℕ, List, ◌∷◌, ◌++◌, Option, refl}
use Rattle.pc_base.specs.Key.{is_key_byte}
use Rattle.pc_base.specs.Value.{is_value_byte}
use Rattle.pc_spelling.specs.Bytes.{is_digit, is_part_byte, is_line_byte}
use Rattle.pc_spelling.specs.Cutting.{◌&◌}
use Rattle.pc_spelling.proofs.ByteClasses.{digits_in_keys, keys_in_values, values_in_parts, parts_in_lines, within_both}
use Rattle.pc_spelling.proofs.Readings.{IsReading, both_reading, wider}

-- Two parts of a line.
infixr 60 ◌⊗◌
pub ◌⊗◌ : {A B : Type 0} {P : A → Type 0} {Q : B → Type 0} {s : A → List ℕ} {t : B → List ℕ} {f : List ℕ → Option A} {g : List ℕ → Option B} → IsReading is_part_byte P s f → IsReading is_line_byte Q t g → IsReading is_line_byte (λ (p : A × B). P p.0 × Q p.1) (λ (p : A × B). s p.0 ++ (32 ∷ t p.1)) (f & g)
one ⊗ other = both_reading 32 refl refl parts_in_lines one other

-- A part that is a number.
pub number : {A : Type 0} {P : A → Type 0} {s : A → List ℕ} {f : List ℕ → Option A} → IsReading is_digit P s f → IsReading is_part_byte P s f
number one = wider (within_both digits_in_keys (within_both keys_in_values values_in_parts)) one

-- A part that is made of the bytes of keys.
pub name : {A : Type 0} {P : A → Type 0} {s : A → List ℕ} {f : List ℕ → Option A} → IsReading is_key_byte P s f → IsReading is_part_byte P s f
name one = wider (within_both keys_in_values values_in_parts) one

-- A part of several fields.
pub fields : {A : Type 0} {P : A → Type 0} {s : A → List ℕ} {f : List ℕ → Option A} → IsReading is_value_byte P s f → IsReading is_part_byte P s f
fields one = wider values_in_parts one

-- The last part of its line.
pub last : {A : Type 0} {P : A → Type 0} {s : A → List ℕ} {f : List ℕ → Option A} → IsReading is_part_byte P s f → IsReading is_line_byte P s f
last one = wider parts_in_lines one
