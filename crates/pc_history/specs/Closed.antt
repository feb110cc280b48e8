-- What actors learn of the history while it grows, and what it is at its end.
use Rattle.std.specs.Prelude.{◌≡◌, ℕ, ◌+◌, ◌≤◌, ◌^◌, length, Bool, false, eqb, ◌&&◌, List, map, Option, Some, None, slice_get, slice_index, count_by, All, Contains}
use Rattle.pc_base.specs.declared.ActorId.{ActorId}
use Rattle.pc_base.specs.declared.Entry.{Entry}
use Rattle.pc_history.specs.declared.pair.Pair.{Pair}
use Rattle.pc_history.specs.declared.view.Known.{Known}
use Rattle.pc_history.specs.declared.view.Part.{Part}
use Rattle.pc_history.specs.Sense.{Sense}
use Rattle.pc_history.specs.Own.{own, pairs_of, entries_of}
use Rattle.pc_history.specs.History.{IsFine, AllKept}
use Rattle.pc_history.specs.Parts.{uses_of}
use Rattle.pc_history.specs.World.{NamesAtMostOne}

-- Different entries have different numbers.
abbrev pub StepsDiffer : {E : Type 0} → List (Entry E) → Type 0
StepsDiffer {E} entries = (a b : Entry E) → Contains entries a → Contains entries b → a.step ≡ b.step → a ≡ b

-- These entries are kept, they have different numbers, and each event names at most one of them.
pub record IsSound {E : Type 0} (S : Sense E) (entries : List (Entry E)) : Type 0 where
  pub kept : AllKept S entries
  pub differ : StepsDiffer entries
  pub one : (event : E) → NamesAtMostOne S entries event

-- The actors whose parts these are.
abbrev pub ids_of : {E : Type 0} → List (Part E) → List ActorId
ids_of parts = map (λ p. p.id) parts

-- Each id that was seated was handed in.
abbrev pub AllHandedIn : {E : Type 0} → List ActorId → List (Part E) → Type 0
AllHandedIn seated parts = All (λ id. Contains (ids_of parts) id) seated

module _ {E : Type 0} (S : Sense E) where
  -- A known entry stands in the history, at its place in its actor's list.
  abbrev pub Stands : List (Entry E) → Known E → Type 0
  Stands history k = slice_get (entries_of (own S k.entry.actor history)) k.place ≡ Some k.entry

  -- What is named is the entry of this step.
  abbrev pub names_step : ℕ → Option (Entry E) → Bool
  names_step step None = false
  names_step step (Some e) = eqb e.step step

  -- How many entries of the history name and spend the entry of this step.
  abbrev pub spenders : ℕ → List (Entry E) → ℕ
  spenders step history = count_by (λ p. S.spends p.entry.event && names_step step p.named) (pairs_of S history)

  -- There is a fine history in which the part stands: what it stored is what the history has of its actor, and what it knows stands there.
  pub record StandsInHistory (part : Part E) : Type 0 where
    pub history : List (Entry E)
    pub short : length history ≤ 2 ^ 48
    pub fine : IsFine S history
    pub list : own S part.id history ≡ part.own
    pub stand : All (Stands history) part.known

  -- What an actor handed in is true to the history.
  pub record IsClosedPart (history : List (Entry E)) (part : Part E) : Type 0 where
    -- What it stored is what the history has of it.
    pub list : own S part.id history ≡ part.own
    -- What it knew stands in the history.
    pub stand : All (Stands history) part.known
    -- Each of its entries was spent no more often than it gave uses, less those that it has itself in the end.
    pub uses : (place : ℕ) (p : Pair E) → slice_get part.own place ≡ Some p → spenders p.entry.step history + uses_of p.entry.step part.known ≤ slice_index part.given place

  -- The history is the one of these parts.
  pub record IsHistoryOf (history : List (Entry E)) (parts : List (Part E)) : Type 0 where
    -- It is fine, so its entries have the numbers from 0 upwards, with none left out.
    pub fine : IsFine S history
    -- Its entries are kept.
    pub kept : AllKept S history
    -- What each of these actors handed in is true to it.
    pub parts_are : All (IsClosedPart history) parts
    -- It has entries of these actors and of no others.
    pub only : All (λ e. Contains (ids_of parts) e.actor) history
