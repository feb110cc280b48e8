-- What the calls of the table ask, from what ties the fields of its values.
use Rattle.std.proofs.Common.{◌≡◌, ℕ, ◌+◌, ◌%◌, ◌^◌, ◌≤◌, ◌<◌, List, [], length, sym, ◌∙◌, subst, arith, Contains, Some, Option, Bool}
use Rattle.atomic_table.specs.Table.{Me, Allows, Splits, Joins}
use Rattle.atomic_table.specs.Seated.{TableId}
use Rattle.pc_base.specs.declared.ActorId.{ActorId}
use Rattle.pc_base.specs.declared.Entry.{Entry}
use Rattle.pc_history.specs.declared.view.Role.TheVariants.{Acting}
use Rattle.pc_history.specs.declared.view.Part.{Part}
use Rattle.pc_history.specs.declared.view.View.{View}
use Rattle.pc_history.specs.Sense.{Sense}
use Rattle.pc_history.specs.World.{IsWorld}
use Rattle.pc_history.specs.Parts.{knowledge, named_by, CanSpend, uses_left}
use Rattle.pc_history.specs.Meanings.{ActorMeaning, OpenerMeaning, NoteMeaning}
use Rattle.pc_history.specs.Closed.{AllHandedIn}
use Rattle.pc_history.specs.Table.{Rules}
use Rattle.pc_history.specs.Steps.{Acts, Looks, Closes, after_seating, seated_view, after_noting, noted_view, after_copying, copied_view, after_taking, after_handing_in, spent}
use Rattle.pc_history.specs.Ties.{IsSeated, OpenerIsTied, ActorIsTied, NoteIsTied, ActorFields, NoteFields}
use Rattle.pc_history.proofs.LookStep.{look_allows}
use Rattle.pc_history.proofs.ActStep.{act_allows}
use Rattle.pc_history.proofs.TakeStep.{take_joins}
use Rattle.pc_history.proofs.HandInStep.{hand_in_joins}
use Rattle.pc_history.proofs.SeatStep.{seat_splits}
use Rattle.pc_history.proofs.NoteStep.{note_splits}
use Rattle.pc_history.proofs.CopyStep.{copy_splits}
use Rattle.pc_history.proofs.CloseStep.{close_allows}

-- the seat fits the table, which has the word
pub fits-table : {X V : Type 0} (table seat : TableId) (me : Me X V) → IsSeated table seat me → (seat ≡ table) × (0 < table.words)
fits-table table seat me is = (is.same, (let one = is.one_word in omega arith))

-- what `act` asks
pub record CanAct {E : Type 0} (S : Sense E) (part : Part E) (event : E) : Type 0 where
  pub short : length part.own < 2 ^ 32
  pub local : S.local part.id part.own event (named_by S part event)
  pub caused : S.caused (knowledge part) event part.id
  pub can_spend : CanSpend S part event

module _ {X W E : Type 0} (sense : W → Sense E) (laws : (w : W) → IsWorld (sense w)) (name : TableId) (named : Option W) (key : W) (table : TableId) (seat : TableId) (number : ℕ) (me : Me X (View W E)) where
  pub act_call : (id : ActorId) (entries : List (Entry E)) → ActorIsTied name named key table seat me id entries
      → (spare : ℕ) (actor : ActorMeaning W E) → record { world = key; part = me.0.part; spare = spare } ≡ actor
      → (asked : Option E) (event : E) → asked ≡ Some event → CanAct (sense actor.world) actor.part event
      → (seat ≡ table) × (0 < table.words) × Allows (Rules sense key) table.slots number me 0 (λ n. (n + 1) % 2 ^ 64) (Acts sense asked me)
  act_call id entries tied spare actor is asked event asks can =
      let fits = fits-table table seat me tied.seated in
      let can' : CanAct (sense key) me.0.part event = subst (λ (a : ActorMeaning W E). CanAct (sense a.world) a.part event) (sym is) can in
      (fits.0, fits.1, act_allows sense key (laws key) table.slots number me.0 me.1 asked event asks tied.role_is tied.world_is can'.short can'.local can'.caused can'.can_spend)

  pub look_call : IsSeated table seat me → me.0.role ≡ Acting → me.0.world ≡ Some key
      → (seat ≡ table) × (0 < table.words) × Allows (Rules sense key) table.slots number me 0 (λ n. n) (Looks sense me)
  look_call seated role world =
      let fits = fits-table table seat me seated in
      (fits.0, fits.1, look_allows sense key (laws key) table.slots number me.0 me.1 role world)

  pub close_call : (whole : Bool) (lists : List (List (Entry E))) → OpenerIsTied name named key table seat me whole lists
      → (opener : OpenerMeaning W E) → record { world = key; seated = me.0.seated; parts = me.0.parts; whole = whole } ≡ opener → AllHandedIn opener.seated opener.parts
      → (seat ≡ table) × (0 < table.words) × Allows (Rules sense key) table.slots number me 0 (λ n. n) (Closes sense me)
  close_call whole lists tied opener is handed =
      let fits = fits-table table seat me tied.seated in
      let handed' : AllHandedIn me.0.seated me.0.parts = subst (λ (o : OpenerMeaning W E). AllHandedIn o.seated o.parts) (sym is) handed in
      (fits.0, fits.1, close_allows sense key (laws key) table.slots number me.0 me.1 tied.role_is tied.world_is handed')

module _ {X W E : Type 0} (sense : W → Sense E) (name : TableId) (named : Option W) (key : W) (table : TableId) (seat : TableId) (number : ℕ) (me : Me X (View W E)) where
  pub seat_call : (whole : Bool) (lists : List (List (Entry E))) → OpenerIsTied name named key table seat me whole lists
      → (opener : OpenerMeaning W E) → record { world = key; seated = me.0.seated; parts = me.0.parts; whole = whole } ≡ opener
      → (asked : Option ActorId) (id : ActorId) → asked ≡ Some id → (Contains opener.seated id → ⊥) → length opener.seated < 65536
      → (seat ≡ table) × (0 < table.words) × Splits {S = X} (Rules sense key) number me.0 (after_seating asked me.0) (seated_view asked me.0)
  seat_call whole lists tied opener is asked id asks free few =
      let fits = fits-table table seat me tied.seated in
      let free' : Contains me.0.seated id → ⊥ = subst (λ (o : OpenerMeaning W E). Contains o.seated id → ⊥) (sym is) free in
      let few' : length me.0.seated < 65536 = subst (λ (o : OpenerMeaning W E). length o.seated < 65536) (sym is) few in (
        fits.0,
        fits.1,
        subst (λ a. Splits {S = X} (Rules sense key) number me.0 (after_seating a me.0) (seated_view a me.0)) (sym asks) (seat_splits sense key number me.0 id tied.role_is tied.world_is free' few'),
      )

  pub note_call : (id : ActorId) (entries : List (Entry E)) → ActorIsTied name named key table seat me id entries
      → (spare : ℕ) (actor : ActorMeaning W E) → record { world = key; part = me.0.part; spare = spare } ≡ actor
      → (asked : Option (ℕ × ℕ)) (what : ℕ × ℕ) → asked ≡ Some what → what.0 < length actor.part.own
      → (seat ≡ table) × (0 < table.words) × Splits {S = X} (Rules sense key) number me.0 (after_noting asked me.0) (noted_view asked me.0)
  note_call id entries tied spare actor is asked what asks within =
      let fits = fits-table table seat me tied.seated in
      let within' : what.0 < length me.0.part.own = subst (λ (a : ActorMeaning W E). what.0 < length a.part.own) (sym is) within in (
        fits.0,
        fits.1,
        subst (λ a. Splits {S = X} (Rules sense key) number me.0 (after_noting a me.0) (noted_view a me.0)) (sym asks) (note_splits sense key number me.0 what.0 what.1 tied.role_is within'),
      )

  pub copy_call : NoteIsTied name named key table seat me
      → (note : NoteMeaning W E) → record { world = key; known = me.0.part.known } ≡ note
      → (asked : Option ℕ) (uses : ℕ) → asked ≡ Some uses → uses ≤ uses_left note.known
      → (seat ≡ table) × (0 < table.words) × Splits {S = X} (Rules sense key) number me.0 (after_copying asked me.0) (copied_view asked me.0)
  copy_call tied note is asked uses asks enough =
      let fits = fits-table table seat me tied.seated in
      let enough' : uses ≤ uses_left me.0.part.known = subst (λ (m : NoteMeaning W E). uses ≤ uses_left m.known) (sym is) enough in (
        fits.0,
        fits.1,
        subst (λ a. Splits {S = X} (Rules sense key) number me.0 (after_copying a me.0) (copied_view a me.0)) (sym asks) (copy_splits sense key number me.0 uses tied.role_is enough'),
      )

  pub take_call : (id : ActorId) (entries : List (Entry E)) → ActorIsTied name named key table seat me id entries
      → (note : NoteMeaning W E) (seat' : TableId) (number' : ℕ) (me' : Me X (View W E)) → NoteFields name named note seat' me'
      → (seat ≡ table) × (seat' ≡ table) × (me'.1 ≡ []) × (0 < table.words) × Joins {S = X} (Rules sense key) number me.0 number' me'.0 (after_taking me.0 me'.0) spent
  take_call id entries tied note seat' number' me' fields =
      let fits = fits-table table seat me tied.seated in
      (fits.0, fields.seated.same ∙ sym tied.is_named.table_is, fields.seated.bare, fits.1, take_joins sense key number number' me.0 me'.0 tied.role_is fields.role_is)

  pub hand_in_call : (whole : Bool) (lists : List (List (Entry E))) → OpenerIsTied name named key table seat me whole lists
      → (actor : ActorMeaning W E) (seat' : TableId) (number' : ℕ) (me' : Me X (View W E)) (entries' : List (Entry E)) → ActorFields name named actor seat' me' entries'
      → (seat ≡ table) × (seat' ≡ table) × (me'.1 ≡ []) × (0 < table.words) × Joins {S = X} (Rules sense key) number me.0 number' me'.0 (after_handing_in me.0 me'.0) spent
  hand_in_call whole lists tied actor seat' number' me' entries' fields =
      let fits = fits-table table seat me tied.seated in
      (fits.0, fields.seated.same ∙ sym tied.is_named.table_is, fields.seated.bare, fits.1, hand_in_joins sense key number number' me.0 me'.0 tied.role_is fields.role_is)
