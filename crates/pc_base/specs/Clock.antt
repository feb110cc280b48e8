-- What a hybrid logical clock gives, by the reading of a physical clock and by all that was heard. SIGMOD 2020 paper, section 4.
use Rattle.std.specs.Prelude.{ℕ, ◌+◌, ◌*◌, ◌/◌, ◌^◌, nat_lt, if◌then◌else◌}

-- What the clock gives at this reading: the reading where it is past all that was heard, else the timestamp after that.
abbrev pub clock_now : ℕ → ℕ → ℕ
clock_now reading high = if nat_lt (high / 2 ^ 32) reading then reading * 2 ^ 32 else high + 1
