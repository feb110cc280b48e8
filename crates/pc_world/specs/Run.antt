-- Runs of the protocol. Own profile: a state at each range is CockroachDB SIGMOD 2020, one list of events is this project's.
use Rattle.std.specs.Prelude.{ℕ, ◌+◌, ◌^◌, ◌≤◌, Bool, true, false, List, All}
use Rattle.pc_base.specs.declared.entry.Entry.{Entry}
use Rattle.pc_history.specs.History.{IsFine}
use Rattle.pc_history.specs.Sense.{Sense}
use Rattle.pc_proto.specs.declared.event.Event.{Event}
use Rattle.pc_proto.specs.declared.event.Event.TheVariants as events
use Rattle.pc_proto.specs.Stamps.{event_stamps}
use Rattle.pc_world.specs.Caused.{IsCaused}
use Rattle.pc_world.specs.Local.{Head, IsLocal}
use Rattle.pc_world.specs.Named.{names}

-- A clock's readings go up to 2^62 nanoseconds, so the timestamps that they give go up to this.
abbrev pub clock_end : ℕ
clock_end = 2 ^ 94

-- Each timestamp in the entry is at most the clock's last one, plus one for each step so far.
abbrev pub IsKept : ℕ → Event → Type 0
IsKept step event = All (λ ts. ts ≤ clock_end + step + 1) (event_stamps event)

-- An evaluation spends a use of its send.
abbrev pub spends : Event → Bool
spends (events.Eval actor number reply) = true
spends _ = false

-- What the protocol says of its events.
abbrev pub protocol : Head → Sense Event
protocol head = record { names = names; local = IsLocal head; caused = IsCaused; spends = spends; kept = IsKept }

-- A run: each entry's step is its place, and its event may come next in its actor's own list and is caused by the entries before.
abbrev pub IsRun : Head → List (Entry Event) → Type 0
IsRun head history = IsFine (protocol head) history
