-- The clock of a session or a recoverer: the one that the workload states, or the one that was handed in. Own profile.
use Rattle.std.specs.Prelude.{ℕ, Bool}
use Rattle.pc_clock.specs.Stepped.{stepped_rule}
use Rattle.pc_ends.specs.declared.session_clock.SessionClock.{SessionClock}
use Rattle.pc_ends.specs.declared.session_clock.SessionClock.TheVariants as clocks

-- Which readings the clock may give at each read: the stated one those of its steps, the other one those that its own rule allows.
abbrev pub session_rule : {C : Type 0} → (C → ℕ → ℕ → Bool) → SessionClock C → ℕ → ℕ → Bool
session_rule rule (clocks.Stated stated) = stepped_rule stated.start stated.step
session_rule rule (clocks.Handed handed) = rule handed

-- How often the clock was read.
abbrev pub session_reads : {C : Type 0} → (C → ℕ) → SessionClock C → ℕ
session_reads reads (clocks.Stated stated) = stated.reads
session_reads reads (clocks.Handed handed) = reads handed
