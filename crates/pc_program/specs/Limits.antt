-- How many bytes each mode reads. Own profile.
use Rattle.std.specs.Prelude.{◌≡◌, ℕ, ◌+◌, ◌↔◌, List, Option, IfSome}
use Rattle.pc_base.specs.declared.limits.TheConstants.{INPUT_BYTES}
use Rattle.pc_checking.specs.declared.mode.TheConstants.{JOURNAL_BYTES}
use Rattle.pc_io.specs.Reading.{TakesAtMost, TakesExactly}
use Rattle.pc_program.specs.declared.status.Status.{Status}
use Rattle.pc_program.specs.declared.status.Status.TheVariants as statuses
use Rattle.pc_words.specs.declared.Mode.{Mode}
use Rattle.pc_words.specs.declared.Mode.TheVariants as modes

-- The most bytes that a workload, or a journal with its report, may have.
abbrev pub input_limit : Mode → ℕ
input_limit modes.Run = INPUT_BYTES
input_limit modes.Check = JOURNAL_BYTES

-- The input is too long exactly where one byte more than the limit was read, and no more than that is ever read.
pub record KeepsLimit (limit : ℕ) (status : Status) (left rest : Option (List ℕ)) : Type 0 where
  pub too_long : IfSome left (λ bytes. (status ≡ statuses.TooLong (limit + 1)) ↔ TakesExactly (limit + 1) bytes rest)
  pub too_long_by_one : (bytes : ℕ) → status ≡ statuses.TooLong bytes → bytes ≡ limit + 1
  pub read_most : TakesAtMost (limit + 1) left rest
