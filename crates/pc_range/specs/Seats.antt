-- Which ranges are there, and how their actors take seats and are handed in.
use Rattle.std.specs.Prelude.{◌≡◌, ℕ, ◌+◌, ◌≤◌, Bool, false, nat_lt, List, [], ◌∷◌, ◌++◌, length, filter, Contains}
use Rattle.pc_base.specs.declared.actor.ActorId.{ActorId}
use Rattle.pc_base.specs.declared.actor.ActorId.TheVariants as actors
use Rattle.pc_history.specs.Closed.{ids_of}
use Rattle.pc_history.specs.declared.view.Part.{Part}
use Rattle.pc_history.specs.Meanings.{OpenerMeaning}
use Rattle.pc_proto.specs.declared.event.Event.{Event}
use Rattle.pc_world.specs.Local.{Head}

-- What contracts see of all ranges: the splits between them, and how many entries each may have.
pub record RangesMeaning : Type 0 where
  pub splits : List (List ℕ)
  pub limit : ℕ

-- The id is that of one of so many ranges.
abbrev pub is_range_there : ℕ → ActorId → Bool
is_range_there count (actors.Range range) = nat_lt range count
is_range_there count (actors.Session number) = false
is_range_there count (actors.Recoverer number) = false

-- Of these ids, those of the ranges that are there.
abbrev pub ranges_there : ℕ → List ActorId → List ActorId
ranges_there count ids = filter (is_range_there count) ids

-- The ids of eight ranges in a row.
abbrev pub eight_ids : ℕ → ℕ → ℕ → ℕ → ℕ → ℕ → ℕ → ℕ → List ActorId
eight_ids a b c d e f g h =
    actors.Range a ∷ actors.Range b ∷ actors.Range c ∷ actors.Range d ∷ actors.Range e ∷ actors.Range f ∷ actors.Range g ∷ actors.Range h ∷ []

-- The ids of all ranges that there may be.
abbrev pub all_range_ids : List ActorId
all_range_ids = eight_ids 0 1 2 3 4 5 6 7 ++ eight_ids 8 9 10 11 12 13 14 15 ++ eight_ids 16 17 18 19 20 21 22 23 ++ eight_ids 24 25 26 27 28 29 30 31

-- The ids of the first so many ranges.
abbrev pub range_ids : ℕ → List ActorId
range_ids count = ranges_there count all_range_ids

-- No range from this one on stands among the ids.
abbrev pub AreFree : ℕ → List ActorId → Type 0
AreFree from ids = (range : ℕ) → from ≤ range → Contains ids (actors.Range range) → ⊥

-- The ranges among these ids that are there were seated, and nothing else was done; none from the next one on has a seat.
pub record HasSeated (count next : ℕ) (ids : List ActorId) (before after : OpenerMeaning Head Event) : Type 0 where
  pub seated : after ≡ record before { seated = before.seated ++ ranges_there count ids }
  pub free : AreFree next after.seated
  pub few : length after.seated ≤ length before.seated + length ids

-- The actors of these ids were handed in, and nothing else was done.
pub record HandsIn (ids : List ActorId) (before after : OpenerMeaning Head Event) : Type 0 where
  pub more : List (Part Event)
  pub handed : after ≡ record before { parts = before.parts ++ more }
  pub whose : ids_of more ≡ ids

-- The second number is the one after the first, and so on.
abbrev pub AreInARow : ℕ → ℕ → ℕ → ℕ → ℕ → ℕ → ℕ → ℕ → Type 0
AreInARow a b c d e f g h = (b ≡ a + 1) × (c ≡ b + 1) × (d ≡ c + 1) × (e ≡ d + 1) × (f ≡ e + 1) × (g ≡ f + 1) × (h ≡ g + 1)
