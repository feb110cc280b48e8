-- A session's clock as a workload states it: reading i, from 0, is the start plus i steps.
use Rattle.std.specs.Prelude.{ℕ, List, [], ◌∷◌, Option, Some, None, codes, if◌then◌else◌}
use Rattle.serde_json.specs.Data.{Data}
use Rattle.pc_work.specs.Reading.{◌>>=◌}
use Rattle.pc_work.specs.Members.{has_only, whole_in}
use Rattle.pc_work.specs.declared.clock.ClockWork.{ClockWork}

-- The names of a clock's members, each of which is required.
abbrev pub clock_names : List (List ℕ)
clock_names = codes "start" ∷ codes "step" ∷ []

-- The clock that a value states: an object with exactly a start and a step, both whole numbers of 64 bits.
unfoldable pub clock_of : Data → Option ClockWork
clock_of value = if has_only clock_names value then (do
  start ← whole_in (codes "start") value
  step ← whole_in (codes "step") value
  Some (record { start = start; step = step })) else None
