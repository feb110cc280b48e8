-- What is known of what is found, if anything is found.
use Rattle.std.proofs.Common.{◌≡◌, suc, All, IfSome, Bool, true, false, cond, [], ◌∷◌, length, Option, Some, None, refl, subst, ap}
use Rattle.std.proofs.lemmas.List.Elements.{All-cons, All-nil}
use Rattle.std.proofs.lemmas.Option.{none-some}
use Rattle.serde_json.specs.Data.{Data, null, boolean, number, string, array, object, Items, no_items, item}
use Rattle.pc_work.specs.Reading.{◌>>=◌}
use Rattle.pc_work.specs.Members.{read_if, read_or}
use Rattle.pc_work.specs.Lists.{items_by, list_by}
use Rattle.pc_work.specs.Refusal.{how_many}

-- What is found, if anything, has the property.
pub record Only {Y : Type 0} (P : Y → Type 0) (found : Option Y) : Type 0 where
  pub each : (y : Y) → found ≡ Some y → P y

pub only_some : {Y : Type 0} (P : Y → Type 0) (y : Y) → P y → Only P (Some y)
only_some P y has = record { each = λ z e. let same : y ≡ z = cc in subst P same has }

pub only_none : {Y : Type 0} (P : Y → Type 0) → Only P None
only_none P = record { each = λ y e. absurd (none-some y e) }

-- Of what was found before, a property is known.
pub only_known : {A B : Type 0} (Q : A → Type 0) (P : B → Type 0) (found : Option A) (next : A → Option B) → Only Q found → ((x : A) → Q x → Only P (next x)) → Only P (found >>= next)
only_known Q P (Some x) next known follows = follows x (known.each x refl)
only_known Q P None next known follows = only_none P

-- The same, where it is told too what was found.
pub only_found : {A B : Type 0} (Q : A → Type 0) (P : B → Type 0) (found : Option A) (next : A → Option B) → Only Q found → ((x : A) → found ≡ Some x → Q x → Only P (next x)) → Only P (found >>= next)
only_found Q P (Some x) next known follows = follows x refl (known.each x refl)
only_found Q P None next known follows = only_none P

-- Of what was found before, nothing is known.
pub only_behind : {A B : Type 0} (P : B → Type 0) (found : Option A) (next : A → Option B) → ((x : A) → Only P (next x)) → Only P (found >>= next)
only_behind P (Some x) next follows = follows x
only_behind P None next follows = only_none P

pub only_when : {B : Type 0} (P : B → Type 0) (test : Bool) (found : Option B) → (test ≡ true → Only P found) → Only P (cond test found None)
only_when P true found only = only refl
only_when P false found only = only_none P

-- A member that is absent is at its default, which has the property too.
pub only_read : {X : Type 0} (P : X → Type 0) (default : X) (read : Data → Option X) → P default → ((value : Data) → Only P (read value)) → (found : Option Data) → Only P (read_or default read found)
only_read P default read has each None = only_some P default has
only_read P default read has each (Some value) = each value

-- Where a member is there, it has the property.
pub only_if : {X : Type 0} (P : X → Type 0) (read : Data → Option X) → ((value : Data) → Only P (read value)) → (found : Option Data) → Only (λ o. IfSome o P) (read_if read found)
only_if P read each None = only_some (λ o. IfSome o P) None tt
only_if P read each (Some value) =
    only_known P (λ o. IfSome o P) (read value) (λ found. Some (Some found)) (each value) (λ found has.
    only_some (λ o. IfSome o P) (Some found) has)

pub items_only : {X : Type 0} (P : X → Type 0) (read : Data → Option X) → ((value : Data) → Only P (read value)) → (values : Items) → Only (All P) (items_by read values)
unfolding items_by
items_only P read each no_items = only_some (All P) [] (All-nil P)
items_only P read each (item value values) =
    only_known P (All P) (read value) (λ first. items_by read values >>= λ others. Some (first ∷ others)) (each value) (λ first one.
    only_known (All P) (All P) (items_by read values) (λ others. Some (first ∷ others)) (items_only P read each values) (λ others rest.
    only_some (All P) (first ∷ others) (All-cons P first others one rest)))

pub list_only : {X : Type 0} (P : X → Type 0) (read : Data → Option X) → ((value : Data) → Only P (read value)) → (value : Data) → Only (All P) (list_by read value)
list_only P read each null = only_none (All P)
list_only P read each (boolean b) = only_none (All P)
list_only P read each (number n) = only_none (All P)
list_only P read each (string s) = only_none (All P)
list_only P read each (array values) = items_only P read each values
list_only P read each (object fields) = only_none (All P)

-- As many items are read as there are.
pub length_only : {X : Type 0} (read : Data → Option X) (values : Items) → Only (λ xs. length xs ≡ how_many values) (items_by read values)
unfolding items_by
length_only read no_items = only_some (λ xs. length xs ≡ 0) [] refl
length_only read (item value values) =
    only_behind (λ xs. length xs ≡ suc (how_many values)) (read value) (λ first. items_by read values >>= λ others. Some (first ∷ others)) (λ first.
    only_known (λ xs. length xs ≡ how_many values) (λ xs. length xs ≡ suc (how_many values)) (items_by read values) (λ others. Some (first ∷ others)) (length_only read values) (λ others is.
    only_some (λ xs. length xs ≡ suc (how_many values)) (first ∷ others) (ap suc is)))
