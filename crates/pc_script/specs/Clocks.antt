-- Clocks: each call is asked at the next reading of its session's clock.
use Rattle.std.specs.Prelude.{ℕ, Bool, Option, None, Some}
pub use Rattle.pc_desk.specs.Asks.{ReadsClock, asks_in, is_ask}
use Rattle.pc_clock.specs.Stepped.{stepped_rule}
use Rattle.pc_work.specs.declared.clock.ClockWork.{ClockWork}

-- The rule of a session's clock: of the one that the workload states, else of the one that was handed in.
abbrev pub clock_rule : Option ClockWork → (ℕ → ℕ → Bool) → ℕ → ℕ → Bool
clock_rule None rule = rule
clock_rule (Some clock) rule = stepped_rule clock.start clock.step
