-- What sessions, and what recoverers gave when they finished, one after another.
use Rattle.std.specs.Prelude.{◌≡◌, ℕ, Bool, Some, List, length, slice_get}
use Rattle.pc_closing.specs.Leaving.{Leaver}
use Rattle.pc_rounds.specs.Counted.{CountedMeaning}
use Rattle.pc_runs.specs.Laws.{HasFinished, HasFinishedInRounds}
use Rattle.pc_scripted.specs.Scripted.{ScriptedMeaning}

-- Each of these has given one of those, in order, and of both this is so.
pub record HaveGiven {X : Type 0} (Has : X → Leaver → Type 0) (all : List X) (leavers : List Leaver) : Type 0 where
  pub many : length leavers ≡ length all
  pub each : (index : ℕ) (x : X) (l : Leaver) → slice_get all index ≡ Some x → slice_get leavers index ≡ Some l → Has x l

-- Sessions.
abbrev pub HaveGivenSessions : {C : Type 0} → (C → ℕ → ℕ → Bool) → List (ScriptedMeaning C) → List Leaver → Type 0
HaveGivenSessions rule sessions leavers = HaveGiven (HasFinished rule) sessions leavers

-- Recoverers.
abbrev pub HaveGivenInRounds : {C : Type 0} → (C → ℕ → ℕ → Bool) → List (CountedMeaning C) → List Leaver → Type 0
HaveGivenInRounds rule recoverers leavers = HaveGiven (HasFinishedInRounds rule) recoverers leavers
