-- Which timestamp a session's clock gives, by what it may not do, and which is the least such. SIGMOD 2020 paper, section 4.
use Rattle.std.specs.Prelude.{ℕ, ◌*◌, ◌^◌, ◌≤◌, ◌<◌}

-- The timestamp is above all that was heard or given, and not below the reading of the physical clock.
pub record IsAboveAll (last reading ts : ℕ) : Type 0 where
  pub heard : last < ts
  pub read : reading * 2 ^ 32 ≤ ts

-- The timestamp is the least such one.
pub record IsLeastAbove (last reading ts : ℕ) : Type 0 where
  pub above : IsAboveAll last reading ts
  pub least : (other : ℕ) → IsAboveAll last reading other → ts ≤ other
