-- The greatest timestamps that an actor knows of. Hybrid logical clocks, SIGMOD 2020 paper, section 4.
use Rattle.std.specs.Prelude.{ℕ, max, Option, None, Some, List, []}
use Rattle.pc_base.specs.declared.entry.Entry.{Entry}
use Rattle.pc_proto.specs.declared.answer.Answer.{Answer}
use Rattle.pc_proto.specs.declared.answer.Answer.TheVariants as answers
use Rattle.pc_proto.specs.declared.event.Event.{Event}
use Rattle.pc_proto.specs.declared.event.Event.TheVariants as events
use Rattle.pc_proto.specs.Stamps.{event_stamps, greatest_of}

-- The timestamps in an entry that is named, if there is one.
abbrev pub named_stamps : Option (Entry Event) → List ℕ
named_stamps None = []
named_stamps (Some e) = event_stamps e.event

-- The greatest timestamp in the actor's own entries and in the entries that they name.
abbrev pub top_after : Event → Option (Entry Event) → ℕ → ℕ
top_after event named top = max top (max (greatest_of (event_stamps event)) (greatest_of (named_stamps named)))

-- A begin timestamp that is told moves the session's clock up.
abbrev pub high_told : Answer → ℕ → ℕ
high_told (answers.Begun id ts) high = max high ts
high_told _ high = high

-- The greatest timestamp in the replies heard, in the commits met and in the begin timestamps told: the clock of a session.
abbrev pub high_after : Event → Option (Entry Event) → ℕ → ℕ
high_after (events.Hear number step) named high = max high (greatest_of (named_stamps named))
high_after (events.Meet id step) named high = max high (greatest_of (named_stamps named))
high_after (events.Tell answer) named high = high_told answer high
high_after _ named high = high
