-- Which heads and histories have a spelling. Own profile.
use Rattle.std.specs.Prelude.{ℕ, ◌+◌, List, length}
use Rattle.std.specs.Prelude.{All}
use Rattle.pc_base.specs.declared.entry.Entry.{Entry}
use Rattle.pc_base.specs.Rising.{AreRising}
use Rattle.pc_proto.specs.declared.event.Event.{Event}
use Rattle.pc_journal.specs.Fits.{Fits32, FitsEntry, FitsKeys}

-- The keys at which a map is split: they rise, and the number of ranges is one of 32 bits.
pub record FitsSplits (splits : List (List ℕ)) : Type 0 where
  pub keys : FitsKeys splits
  pub rise : AreRising splits
  pub count : Fits32 (length splits + 1)

-- What stands in the head of a journal.
pub record FitsHead (splits : List (List ℕ)) (sessions recoverers : ℕ) : Type 0 where
  pub cuts : FitsSplits splits
  pub first_count : Fits32 sessions
  pub second_count : Fits32 recoverers

-- A history that has a spelling: each of its entries has one.
abbrev pub FitsEntries : List (Entry Event) → Type 0
FitsEntries entries = All FitsEntry entries
