-- The calls that an actor asks, each at the next reading of its clock. Own profile.
use Rattle.std.specs.Prelude.{ℕ, Bool, true, false, List, count_by, IsTrue, ⊤}
use Rattle.pc_history.specs.declared.pair.Pair.{Pair}
use Rattle.pc_proto.specs.declared.event.Event.{Event}
use Rattle.pc_proto.specs.declared.event.Event.TheVariants as events

-- The event asks a call.
abbrev pub is_ask : Event → Bool
is_ask (events.Ask call reading) = true
is_ask _ = false

-- How many calls an actor's list asks.
abbrev pub asks_in : List (Pair Event) → ℕ
asks_in own = count_by (λ p. is_ask p.entry.event) own

-- A call that is asked after so many others has a reading that the rule gives at that read.
abbrev pub ReadsClock : (ℕ → ℕ → Bool) → ℕ → Event → Type 0
ReadsClock rule asks (events.Ask call reading) = IsTrue (rule asks reading)
ReadsClock rule asks _ = ⊤
