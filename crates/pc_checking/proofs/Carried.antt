-- From what is said of the bytes that were read to what is said of those that the source had.
use Rattle.std.proofs.Common.{◌≡◌, ◌↔◌, ℕ, List, Option, None, Some, IfSome, subst}
use Rattle.pc_checking.specs.declared.checked.Checked.{Checked}
use Rattle.pc_checking.specs.declared.checked.Checked.TheVariants as ends
use Rattle.pc_checking.specs.Ends.{IsAfterWhole}
use Rattle.pc_io.specs.Reading.{IsAllOf}

-- What holds of the bytes that were read holds of those that the source had, where they are all of them.
pub of_source : (left : Option (List ℕ)) (bytes : List ℕ) (P : List ℕ → Type 0) → IsAllOf left bytes → P bytes → IfSome left P
of_source None bytes P all p = tt
of_source (Some there) bytes P all p = subst P all p

-- What comes after reading is not that the input was too long.
pub not_too_long : (checked : Checked) (count : ℕ) (left : Option (List ℕ)) (Takes : List ℕ → Type 0) (Long : Type 0) → IsAfterWhole checked → IfSome left (λ there. Long ↔ Takes there) → (Long → ⊥) → IfSome left (λ there. (checked ≡ ends.TooLong count) ↔ Takes there)
not_too_long checked count None Takes Long after cause short = tt
not_too_long checked count (Some there) Takes Long after cause short =
    (λ e. absurd (subst IsAfterWhole e after), λ taken. absurd (short (cause.1 taken)))
