-- The greatest timestamp: a wall part of 64 bits and a logical part of 32.
use Rattle.std.specs.Prelude.{ℕ, ◌-◌, ◌^◌}

-- No timestamp is above this one.
abbrev pub greatest : ℕ
greatest = 2 ^ 96 - 1
