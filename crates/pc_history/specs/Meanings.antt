-- What contracts see of a table and of all that is made of it.
use Rattle.std.specs.Prelude.{ℕ, Bool, List, []}
use Rattle.atomic_table.specs.Seated.{TableId}
use Rattle.pc_base.specs.declared.ActorId.{ActorId}
use Rattle.pc_history.specs.declared.view.Known.{Known}
use Rattle.pc_history.specs.declared.view.Part.{Part}

-- The name of no table.
abbrev pub no_table : TableId
no_table = record { words = 0; slots = 0; views_name = 0; atom = 0; block = 0; offset = 0; slot_names = [] }

-- A table of this world, which has this name and no history yet.
pub record BlankMeaning (W : Type 0) : Type 0 where
  pub world : W
  pub table : TableId

-- The ids that were seated, what was handed in, and whether all of it is at hand.
pub record OpenerMeaning (W E : Type 0) : Type 0 where
  pub world : W
  pub seated : List ActorId
  pub parts : List (Part E)
  pub whole : Bool

-- What the actor stored and knows, and for how many more entries it has room.
pub record ActorMeaning (W E : Type 0) : Type 0 where
  pub world : W
  pub part : Part E
  pub spare : ℕ

-- What the note tells: one entry, with its place and the uses.
pub record NoteMeaning (W E : Type 0) : Type 0 where
  pub world : W
  pub known : List (Known E)
