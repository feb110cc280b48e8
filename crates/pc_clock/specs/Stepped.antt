-- The clock that goes on by the same step at each read. Own profile.
use Rattle.std.specs.Prelude.{ℕ, Bool, ◌==◌, ◌+◌, ◌*◌, ◌-◌, ◌^◌, min}

-- Where the clock starts, how far it goes on at each read, and how many reads were made.
pub record SteppedState : Type 0 where
  pub start : ℕ
  pub step : ℕ
  pub reads : ℕ

-- Reading i, from 0, is the start and i steps, held at the greatest `u64`.
abbrev pub stepped_reading : ℕ → ℕ → ℕ → ℕ
stepped_reading start step i = min (start + i * step) (2 ^ 64 - 1)

-- Each read gives that reading and no other.
abbrev pub stepped_rule : ℕ → ℕ → ℕ → ℕ → Bool
stepped_rule start step i reading = reading == stepped_reading start step i
