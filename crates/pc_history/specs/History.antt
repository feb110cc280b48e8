-- Which histories are fine. Own profile: whatever world of events is given.
use Rattle.std.specs.Prelude.{◌≡◌, List, [], ◌∷◌, ◌++◌, length, All}
use Rattle.pc_base.specs.declared.Entry.{Entry}
use Rattle.pc_history.specs.Sense.{Sense}
use Rattle.pc_history.specs.Own.{own, named_in}

-- The entry may come next, after these entries.
pub record MayFollow {E : Type 0} (S : Sense E) (before : List (Entry E)) (e : Entry E) : Type 0 where
  -- Its step is its place.
  pub step : e.step ≡ length before
  -- Its event may come next in its actor's own list.
  pub local : S.local e.actor (own S e.actor before) e.event (named_in S before e.event)
  -- The entries before it let its actor make the event.
  pub caused : S.caused before e.event e.actor

module _ {E : Type 0} (S : Sense E) where
  -- Each of the later entries may follow all that come before it.
  abbrev pub IsFineAfter : List (Entry E) → List (Entry E) → Type 0
  IsFineAfter before [] = Unit {0}
  IsFineAfter before (e ∷ es) = MayFollow S before e × IsFineAfter (before ++ e ∷ []) es

  -- Each entry of the history may follow those before it.
  abbrev pub IsFine : List (Entry E) → Type 0
  IsFine history = IsFineAfter [] history

  -- Each entry is kept.
  abbrev pub AllKept : List (Entry E) → Type 0
  AllKept entries = All (λ e. S.kept e.step e.event) entries
