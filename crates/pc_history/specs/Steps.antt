-- What the steps on the table do to views, and what they tell.
use Rattle.std.specs.Prelude.{◌≡◌, ℕ, ◌<◌, ◌≤◌, ◌^◌, List, [], ◌∷◌, ◌++◌, Option, Some, None, All, length}
use Rattle.atomic_table.specs.Table.{Me}
use Rattle.pc_base.specs.declared.ActorId.{ActorId}
use Rattle.pc_base.specs.declared.ActorId.TheVariants.{Range}
use Rattle.pc_base.specs.declared.Entry.{Entry}
use Rattle.pc_history.specs.declared.view.Role.TheVariants.{Acting, Noting, Spent}
use Rattle.pc_history.specs.declared.view.Known.{Known}
use Rattle.pc_history.specs.declared.view.Part.{Part}
use Rattle.pc_history.specs.declared.view.View.{View}
use Rattle.pc_history.specs.Sense.{Sense}
use Rattle.pc_history.specs.Parts.{newcomer, knowledge, acted, gave, noted, told, without_uses, with_uses}
use Rattle.pc_history.specs.Closed.{IsSound, IsHistoryOf, StandsInHistory, ids_of}
use Rattle.pc_history.specs.Table.{count_of}

module _ {W E : Type 0} where
  -- The view of an actor that was just seated.
  abbrev pub acting : Option W → ActorId → View W E
  acting world id = record { role = Acting; world = world; part = newcomer id; seated = []; parts = [] }

  -- The view of a note that tells these entries.
  abbrev pub noting : Option W → List (Known E) → View W E
  noting world ks = record { role = Noting; world = world; part = told ks (newcomer (Range 0)); seated = []; parts = [] }

  -- The view of a seat that stands for nothing any more.
  abbrev pub spent : View W E
  spent = record { role = Spent; world = None; part = newcomer (Range 0); seated = []; parts = [] }

  -- The opener seats the id that is asked for.
  abbrev pub after_seating : Option ActorId → View W E → View W E
  after_seating None v = v
  after_seating (Some id) v = record v { seated = v.seated ++ id ∷ [] }

  -- The view of the actor that the opener seats.
  abbrev pub seated_view : Option ActorId → View W E → View W E
  seated_view None v = spent
  seated_view (Some id) v = acting v.world id

  -- The actor makes a note of its entry at the place, with so many uses.
  abbrev pub after_noting : Option (ℕ × ℕ) → View W E → View W E
  after_noting None v = v
  after_noting (Some a) v = record v { part = gave a.0 a.1 v.part }

  -- The view of the note that the actor makes.
  abbrev pub noted_view : Option (ℕ × ℕ) → View W E → View W E
  noted_view None v = spent
  noted_view (Some a) v = noting v.world (noted a.0 a.1 v.part)

  -- So many uses of a note go to its copy.
  abbrev pub after_copying : Option ℕ → View W E → View W E
  after_copying None v = v
  after_copying (Some uses) v = record v { part = record v.part { known = without_uses uses v.part.known } }

  -- The view of the note's copy.
  abbrev pub copied_view : Option ℕ → View W E → View W E
  copied_view None v = spent
  copied_view (Some uses) v = noting v.world (with_uses uses v.part.known)

  -- The actor takes a note.
  abbrev pub after_taking : View W E → View W E → View W E
  after_taking v w = record v { part = told w.part.known v.part }

  -- The opener takes an actor back.
  abbrev pub after_handing_in : View W E → View W E → View W E
  after_handing_in v w = record v { parts = v.parts ++ w.part ∷ [] }

  -- The actor makes the event, at this step.
  abbrev pub after_acting : Sense E → ℕ → E → View W E → View W E
  after_acting S step event v = record v { part = acted S step event v.part }

-- The step that an event got is above those of all that the actor stored or knew, and what it stored or knows now is sound and stands in
-- a fine history.
pub record TellsAct {E : Type 0} (S : Sense E) (part : Part E) (step : ℕ) (event : E) : Type 0 where
  pub small : step < 2 ^ 48
  pub above : All (λ e. e.step < step) (knowledge part)
  pub sound : IsSound S (knowledge (acted S step event part))
  pub stands : StandsInHistory S (acted S step event part)

-- The number of steps is above those of all that the actor stored or knows, which is sound and stands in a fine history.
pub record TellsLook {E : Type 0} (S : Sense E) (part : Part E) (steps : ℕ) : Type 0 where
  pub small : steps ≤ 2 ^ 48
  pub above : All (λ e. e.step < steps) (knowledge part)
  pub sound : IsSound S (knowledge part)
  pub stands : StandsInHistory S part

-- The parts that the opener has make up a history as long as the number of steps, and no actor has two of them.
abbrev pub TellsClose : {E : Type 0} → Sense E → List (Part E) → ℕ → Type 0
TellsClose {E} S parts steps = (history : List (Entry E)) × (length history ≡ steps) × IsHistoryOf S history parts × ((id : ActorId) → count_of id (ids_of parts) ≤ 1)

module _ {X W E : Type 0} (sense : W → Sense E) where
  -- An actor makes an event, and is told its step.
  abbrev pub Acts : Option E → Me X (View W E) → ℕ → Me X (View W E) → Type 0
  Acts asked me found after = (w : W) (event : E) → me.0.world ≡ Some w → asked ≡ Some event
      → (after ≡ (after_acting (sense w) found event me.0, me.1)) × TellsAct (sense w) me.0.part found event

  -- A look changes nothing, and tells the number of steps.
  abbrev pub Looks : Me X (View W E) → ℕ → Me X (View W E) → Type 0
  Looks me found after = (after ≡ me) × ((w : W) → me.0.world ≡ Some w → TellsLook (sense w) me.0.part found)

  -- A close changes nothing, and tells the opener that what was handed in makes up the history.
  abbrev pub Closes : Me X (View W E) → ℕ → Me X (View W E) → Type 0
  Closes me found after = (after ≡ me) × ((w : W) → me.0.world ≡ Some w → TellsClose (sense w) me.0.parts found)
