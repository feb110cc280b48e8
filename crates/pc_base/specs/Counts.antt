-- Counts that stand still at the greatest `u64`.
use Rattle.std.specs.Prelude.{ℕ, ◌+◌, ◌-◌, ◌^◌, min}

-- One more than a count, which stands still at the greatest `u64`.
abbrev pub saturating_next : ℕ → ℕ
saturating_next count = min (count + 1) (2 ^ 64 - 1)
