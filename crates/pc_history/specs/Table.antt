-- The rule of the step table.
use Rattle.std.specs.Prelude.{◌≡◌, ℕ, ◌+◌, ◌≤◌, ◌^◌, ◌⊎◌, List, [], ◌∷◌, map, length, Option, Some, sum_by, count_by, Contains}
use mathlib.Core.Option as found
use lib.ListN.{get_elem?}
use Rattle.atomic_table.specs.Table.{State}
use Rattle.pc_base.specs.declared.ActorId.{ActorId}
use Rattle.pc_base.specs.declared.ActorId.TheVariants.{Range}
use Rattle.pc_base.specs.declared.Entry.{Entry}
use Rattle.pc_history.specs.declared.view.Role.{Role}
use Rattle.pc_history.specs.declared.view.Role.TheVariants.{Opening, Acting, Noting, Spent}
use Rattle.pc_history.specs.declared.view.Part.{Part}
use Rattle.pc_history.specs.declared.view.Known.{Known}
use Rattle.pc_history.specs.declared.view.View.{View}
use Rattle.pc_history.specs.Sense.{Sense}
use Rattle.pc_history.specs.Own.{own, same_id}
use Rattle.pc_history.specs.History.{IsFine}
use Rattle.pc_history.specs.Parts.{newcomer, uses_of}
use Rattle.pc_history.specs.Closed.{Stands, spenders, ids_of}

-- The uses of the entry of this step that these parts have.
abbrev pub uses_within : {E : Type 0} → ℕ → List (Part E) → ℕ
uses_within step parts = sum_by (λ p. uses_of step p.known) parts

module _ {W E : Type 0} where
  -- The opener before anybody is seated.
  abbrev pub opening_view : W → View W E
  opening_view w = record { role = Opening; world = Some w; part = newcomer (Range 0); seated = []; parts = [] }

  -- The uses of the entry of this step that one view has, with those of the parts that were handed in to it.
  abbrev pub view_uses : ℕ → View W E → ℕ
  view_uses step v = uses_of step v.part.known + uses_within step v.parts

  -- The uses of the entry of this step that notes, actors and handed-in parts have.
  abbrev pub uses_in : ℕ → List (View W E) → ℕ
  uses_in step views = sum_by (view_uses step) views

-- How often this actor stands among these.
abbrev pub count_of : ActorId → List ActorId → ℕ
count_of id ids = count_by (λ a. same_id a id) ids

module _ {E : Type 0} (S : Sense E) (history : List (Entry E)) where
  -- Each of these known entries stands in the history.
  abbrev pub AllStand : List (Known E) → Type 0
  AllStand ks = (k : Known E) → Contains ks k → Stands S history k

  -- What the actor stored is what the history has of it, its counts of uses are those of the table, and what it knows stands
  -- in the history.
  pub record IsPart (given_of : ℕ → ℕ) (part : Part E) : Type 0 where
    pub list : part.own ≡ own S part.id history
    pub gifts : part.given ≡ map (λ p. given_of p.entry.step) part.own
    pub stand : AllStand part.known

-- What a note tells stands in the history.
pub record FitsNote {W E : Type 0} (S : Sense E) (world : Option W) (history : List (Entry E)) (v : View W E) : Type 0 where
  pub world_is : v.world ≡ world
  pub stand : AllStand S history v.part.known

-- What the table knows beside its history.
pub record Books : Type 0 where
  -- Where an actor sits, one more than the number of its seat, or 0 for nowhere.
  pub seat_of : ActorId → ℕ
  -- How many uses were given for the entry of each step.
  pub given_of : ℕ → ℕ
  -- Who was ever seated.
  pub seated : List ActorId

module _ {W E : Type 0} (S : Sense E) (world : Option W) (history : List (Entry E)) (books : Books) where
  -- A part that the opener has: nobody sits there any more.
  pub record IsHandedIn (part : Part E) : Type 0 where
    pub part_is : IsPart S history books.given_of part
    pub left : books.seat_of part.id ≡ 0
    pub member : Contains books.seated part.id

  -- The opener has seat 0 and knows who was seated; it has each id at most once.
  pub record FitsOpener (seat : ℕ) (v : View W E) : Type 0 where
    pub first : seat ≡ 0
    pub world_is : v.world ≡ world
    pub seated_are : v.seated ≡ books.seated
    pub parts_are : (p : Part E) → Contains v.parts p → IsHandedIn p
    pub distinct : (id : ActorId) → count_of id (ids_of v.parts) ≤ 1

  -- The actor sits on its id's one seat.
  pub record FitsActing (seat : ℕ) (v : View W E) : Type 0 where
    pub world_is : v.world ≡ world
    pub sits : books.seat_of v.part.id ≡ seat + 1
    pub part_is : IsPart S history books.given_of v.part

  -- A view fits the history and the books as one of its role does.
  abbrev pub FitsAs : Role → ℕ → View W E → Type 0
  FitsAs Opening seat v = FitsOpener seat v
  FitsAs Acting seat v = FitsActing seat v
  FitsAs Noting seat v = FitsNote S world history v
  FitsAs Spent seat v = Unit {0}

  -- The view fits the history and the books.
  abbrev pub Fits : ℕ → View W E → Type 0
  Fits seat v = FitsAs v.role seat v

-- There is one fine history, which all seats agree with.
pub record IsStepTable {W E : Type 0} (S : Sense E) (world : Option W) (words : List ℕ) (views : List (View W E)) : Type 0 where
  -- All entries so far.
  pub history : List (Entry E)
  -- Who sits where, and how many uses were given.
  pub books : Books
  -- The number of steps is the length of the history.
  pub word : words ≡ length history ∷ []
  -- The history is fine.
  pub fine : IsFine S history
  -- Each actor has at most 2^32 entries.
  pub room : (id : ActorId) → length (own S id history) ≤ 2 ^ 32
  -- At most 65,536 actors were ever seated.
  pub few : length books.seated ≤ 65536
  -- Whoever has an entry was seated.
  pub actors : (e : Entry E) → Contains history e → Contains books.seated e.actor
  -- Whoever sits was seated.
  pub seats : (id : ActorId) → (books.seat_of id ≡ 0) ⊎ Contains books.seated id
  -- No uses were given yet for an entry to come.
  pub fresh : (step : ℕ) → length history ≤ step → books.given_of step ≡ 0
  -- The uses that notes, actors and handed-in parts have, and the entries that spent one, are at most those that were given.
  pub uses : (step : ℕ) → uses_in step views + spenders S step history ≤ books.given_of step
  -- Each view fits the history and the books.
  pub fits : (seat : ℕ) (v : View W E) → get_elem? views seat ≡ found.some v → Fits S world history books seat v

-- The rule of the table of this world.
abbrev pub Rules : {X W E : Type 0} → (W → Sense E) → W → State X (View W E) → Type 0
Rules sense w s = IsStepTable (sense w) (Some w) s.words s.views
