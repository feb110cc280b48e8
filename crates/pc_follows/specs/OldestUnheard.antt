-- Which of an actor's messages is the oldest whose reply it waits for. Own profile.
use Rattle.std.specs.Prelude.{ℕ, ◌<◌, All}
use Rattle.pc_follows.specs.WaveOrder.{IsHeardOrPut}
use Rattle.pc_world.specs.Known.{Known}

-- Each message of a lower number was heard, or is a put in flight.
abbrev pub IsOldestUnheard : Known → ℕ → Type 0
IsOldestUnheard k number = All (λ m. m.number < number → IsHeardOrPut k.heard m) k.sent
