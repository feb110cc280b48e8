-- In what a session sends its messages.
use Rattle.std.specs.Prelude.{ℕ, List}
use Rattle.pc_wave.specs.Course.{Course}

-- The keys at which the ranges are cut, and what may become of the messages of a wave.
pub record Setting : Type 0 where
  pub splits : List (List ℕ)
  pub course : Course
