-- Which texts spell a turn.
use Rattle.std.proofs.Common.{◌≡◌, ◌≢◌, ℕ, List, [], ◌∷◌, Option, Some, None, refl, ap, arith}
use Rattle.pc_work.specs.Reading.{◌>>=◌}
use Rattle.pc_work.specs.Number.{number_in}
use Rattle.pc_work.specs.Turn.{turn_by, turn_in}

by_other : (letter number : ℕ) → letter ≢ 115 → letter ≢ 98 → letter ≢ 118 → None ≡ turn_by letter number
by_other letter number s b v = grind arith

read_by_other : (letter : ℕ) (found : Option ℕ) → letter ≢ 115 → letter ≢ 98 → letter ≢ 118 → None ≡ (found >>= turn_by letter)
read_by_other letter None s b v = refl
read_by_other letter (Some number) s b v = by_other letter number s b v

-- A text that begins with no letter of a turn spells none.
pub other_letter : (text : List ℕ) → ((rest : List ℕ) → text ≢ 115 ∷ rest) → ((rest : List ℕ) → text ≢ 98 ∷ rest) → ((rest : List ℕ) → text ≢ 118 ∷ rest) → None ≡ turn_in text
other_letter [] s b v = refl
other_letter (letter ∷ rest) s b v = read_by_other letter (number_in rest) (λ e. s rest (ap (λ first. first ∷ rest) e)) (λ e. b rest (ap (λ first. first ∷ rest) e)) (λ e. v rest (ap (λ first. first ∷ rest) e))
