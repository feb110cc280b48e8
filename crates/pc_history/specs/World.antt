-- The laws of a world.
use Rattle.std.specs.Prelude.{◌≡◌, true, false, ◌⊎◌, List, length, Contains}
use Rattle.pc_base.specs.declared.ActorId.{ActorId}
use Rattle.pc_base.specs.declared.Entry.{Entry}
use Rattle.pc_history.specs.Sense.{Sense}
use Rattle.pc_history.specs.Own.{own, named_in}
use Rattle.pc_history.specs.History.{IsFine, AllKept}

-- The event names at most one of these entries.
abbrev pub NamesAtMostOne : {E : Type 0} → Sense E → List (Entry E) → E → Type 0
NamesAtMostOne {E} S entries event = (a b : Entry E) → Contains entries a → Contains entries b → S.names event a ≡ true → S.names event b ≡ true → a ≡ b

-- The event names one of these entries, or no entry at all.
abbrev pub NamesOneOrNone : {E : Type 0} → Sense E → List (Entry E) → E → Type 0
NamesOneOrNone {E} S entries event = ((a : Entry E) → S.names event a ≡ false) ⊎ ((a : Entry E) × Contains entries a × (S.names event a ≡ true))

-- The second list has all entries of the first.
abbrev pub HasAll : {E : Type 0} → List (Entry E) → List (Entry E) → Type 0
HasAll {E} some all = (a : Entry E) → Contains some a → Contains all a

-- What a sense has to meet.
pub record IsWorld {E : Type 0} (S : Sense E) : Type 0 where
  -- What a list causes names one of the list, or nothing at all.
  pub names : (entries : List (Entry E)) (event : E) (id : ActorId) → S.caused entries event id → NamesOneOrNone S entries event
  -- In a fine history an event names at most one entry.
  pub names_one : (history : List (Entry E)) (event : E) → IsFine S history → NamesAtMostOne S history event
  -- What a list causes is caused by every list that has all its entries.
  pub more : (some all : List (Entry E)) (event : E) (id : ActorId) → HasAll some all → S.caused some event id → S.caused all event id
  -- What is local and caused after a fine history whose entries are kept is kept too.
  pub keeps : (history : List (Entry E)) (event : E) (id : ActorId) → IsFine S history → AllKept S history
      → S.local id (own S id history) event (named_in S history event) → S.caused history event id → S.kept (length history) event
