-- The writes of an epoch that are not proved yet, kept beside all of them.
use Rattle.std.specs.Prelude.{◌≡◌, ℕ, Bool, ◌&&◌, ◌==◌, not, List, filter}
use Rattle.pc_base.specs.Span.{same_key}
use Rattle.pc_own.specs.declared.places.Places.{Places}
use Rattle.pc_own.specs.Places.{ArePlacesOf}
use Rattle.pc_world.specs.Known.Writes.{Write, listed_as, unproved}

-- It is not the write of this key and sequence.
abbrev pub is_other_write : List ℕ → ℕ → List ℕ × ℕ → Bool
is_other_write key seq one = not (one.1 == seq && same_key one.0 key)

-- The others than the write of this key and sequence.
abbrev pub without_write : List ℕ → ℕ → List (List ℕ × ℕ) → List (List ℕ × ℕ)
without_write key seq flying = filter (is_other_write key seq) flying

-- The index has the place of each sequence, and the list those writes that are not proved yet.
pub record AreKeptOf (writes : List Write) (p : Places) (list : List (List ℕ × ℕ)) : Type 0 where
  pub places : ArePlacesOf writes p
  pub flying : list ≡ listed_as (unproved writes)
