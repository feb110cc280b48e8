-- What ties the fields of a table's values to what their seats know.
use Rattle.std.specs.Prelude.{◌≡◌, Bool, true, List, [], map, Option, Some}
use Rattle.atomic_table.specs.Table.{Me}
use Rattle.atomic_table.specs.Seated.{TableId}
use Rattle.pc_base.specs.declared.ActorId.{ActorId}
use Rattle.pc_base.specs.declared.Entry.{Entry}
use Rattle.pc_history.specs.declared.view.Role.TheVariants.{Opening, Acting, Noting}
use Rattle.pc_history.specs.declared.view.Part.{Part}
use Rattle.pc_history.specs.declared.view.View.{View}
use Rattle.pc_history.specs.Own.{entries_of}
use Rattle.pc_history.specs.Table.{opening_view}
use Rattle.pc_history.specs.Meanings.{ActorMeaning, NoteMeaning}

-- The entries of these parts, a list for each.
abbrev pub lists_in : {E : Type 0} → List (Part E) → List (List (Entry E))
lists_in parts = map (λ p. entries_of p.own) parts

-- A seat at this table, which has one word, and holds no slot.
pub record IsSeated {X V : Type 0} (table seat : TableId) (me : Me X V) : Type 0 where
  pub same : seat ≡ table
  pub one_word : table.words ≡ 1
  pub bare : me.1 ≡ []

-- A blank table's seat is that of an opener before anybody is seated.
pub record BlankIsTied {X W E : Type 0} (world : W) (table seat : TableId) (me : Me X (View W E)) : Type 0 where
  pub seated : IsSeated table seat me
  pub view_is : me.0 ≡ opening_view world

-- The table has the name, and its world.
pub record IsNamed {W : Type 0} (name : TableId) (named : Option W) (world : W) (table : TableId) : Type 0 where
  pub table_is : table ≡ name
  pub world_is : named ≡ Some world

-- An opener's fields agree with what its seat knows.
pub record OpenerIsTied {X W E : Type 0} (name : TableId) (named : Option W) (world : W) (table seat : TableId) (me : Me X (View W E)) (whole : Bool) (lists : List (List (Entry E))) : Type 0 where
  pub is_named : IsNamed name named world table
  pub seated : IsSeated table seat me
  pub role_is : me.0.role ≡ Opening
  pub world_is : me.0.world ≡ Some world
  pub lists_are : whole ≡ true → lists ≡ lists_in me.0.parts

-- An actor's fields agree with what its seat knows.
pub record ActorIsTied {X W E : Type 0} (name : TableId) (named : Option W) (world : W) (table seat : TableId) (me : Me X (View W E)) (id : ActorId) (entries : List (Entry E)) : Type 0 where
  pub is_named : IsNamed name named world table
  pub seated : IsSeated table seat me
  pub role_is : me.0.role ≡ Acting
  pub world_is : me.0.world ≡ Some world
  pub id_is : me.0.part.id ≡ id
  pub entries_are : entries ≡ entries_of me.0.part.own

-- A note's fields agree with what its seat knows.
pub record NoteIsTied {X W E : Type 0} (name : TableId) (named : Option W) (world : W) (table seat : TableId) (me : Me X (View W E)) : Type 0 where
  pub is_named : IsNamed name named world table
  pub seated : IsSeated table seat me
  pub role_is : me.0.role ≡ Noting
  pub world_is : me.0.world ≡ Some world

-- What an actor gives out is tied to what contracts see of it.
pub record ActorFields {X W E : Type 0} (name : TableId) (named : Option W) (actor : ActorMeaning W E) (seat : TableId) (me : Me X (View W E)) (entries : List (Entry E)) : Type 0 where
  pub world_is : named ≡ Some actor.world
  pub seated : IsSeated name seat me
  pub role_is : me.0.role ≡ Acting
  pub view_world_is : me.0.world ≡ Some actor.world
  pub part_is : me.0.part ≡ actor.part
  pub entries_are : entries ≡ entries_of actor.part.own

-- What a note gives out is tied to what contracts see of it.
pub record NoteFields {X W E : Type 0} (name : TableId) (named : Option W) (note : NoteMeaning W E) (seat : TableId) (me : Me X (View W E)) : Type 0 where
  pub world_is : named ≡ Some note.world
  pub seated : IsSeated name seat me
  pub role_is : me.0.role ≡ Noting
  pub view_world_is : me.0.world ≡ Some note.world
  pub known_are : me.0.part.known ≡ note.known
