-- Reading a list item by item, as a loop does.
use Rattle.std.proofs.Common.{◌≡◌, ℕ, suc, ◌+◌, ◌<◌, ◌≤◌, List, [], ◌∷◌, ◌++◌, length, get_or, drop, Option, Some, None, Err, refl, sym, ap, ◌∙◌, append_assoc, add-one, drop-cons}
use Rattle.std.specs.Global.{Vec}
use Rattle.std.proofs.lemmas.List.{append-nil, drop_all}
use Rattle.serde_json.specs.Data.{Data}
use Rattle.serde_json.specs.View.{view, items_view}
use Rattle.serde_json.specs.declared.value.Value.{Value}
use Rattle.pc_work.specs.declared.fault.Misfit.{Misfit}
use Rattle.pc_work.specs.declared.fault.Misfit.TheVariants as misfits
use Rattle.pc_work.specs.Reading.{◌>>=◌, Gives, GivesBy}
use Rattle.pc_work.specs.Lists.{items_by}

-- What was read before, and what is still read.
abbrev pub with_front : {X : Type 0} → List X → Option (List X) → Option (List X)
with_front front rest = rest >>= λ others. Some (front ++ others)

-- The values that are left begin with the one at the index.
left : (values : List Value) (i : ℕ) (value : Value) → i < length values → value ≡ get_or values i value → drop i values ≡ value ∷ drop (i + 1) values
left values i value within is = rw (add-one, drop-cons values i value) (ap (λ first. first ∷ drop (suc i) values) (sym is))

moved : {X : Type 0} (front : List X) (x : X) (rest : Option (List X)) → with_front (front ++ x ∷ []) rest ≡ with_front front (rest >>= λ others. Some (x ∷ others))
moved front x (Some others) = ap Some (append_assoc front (x ∷ []) others)
moved front x None = refl

step : {X : Type 0} (read : Data → Option X) (values : List Value) (i : ℕ) (value : Value) → i < length values → value ≡ get_or values i value
    → items_by read (items_view (drop i values)) ≡ (read (view value) >>= λ first. items_by read (items_view (drop (i + 1) values)) >>= λ others. Some (first ∷ others))
unfolding items_by
step read values i value within is = rw (left values i value within is)

-- One more item is read.
pub goes_on : {X : Type 0} (read : Data → Option X) (front : List X) (values : List Value) (i : ℕ) (value : Value) (x : X) (whole : Option (List X)) → i < length values → value ≡ get_or values i value → read (view value) ≡ Some x
    → with_front front (items_by read (items_view (drop i values))) ≡ whole → with_front (front ++ x ∷ []) (items_by read (items_view (drop (i + 1) values))) ≡ whole
goes_on read front values i value x whole within is found before =
    let here : items_by read (items_view (drop i values)) ≡ (items_by read (items_view (drop (i + 1) values)) >>= λ others. Some (x ∷ others)) = step read values i value within is ∙ rw found in
    moved front x (items_by read (items_view (drop (i + 1) values))) ∙ ap (with_front front) (sym here) ∙ before

-- An item is refused.
pub ends : {X : Type 0} (misfit : Misfit) (read : Data → Option X) (front : List X) (values : List Value) (i : ℕ) (value : Value) (whole : Option (List X)) → i < length values → value ≡ get_or values i value → Gives (Err misfit) (read (view value))
    → with_front front (items_by read (items_view (drop i values))) ≡ whole → GivesBy {X = Vec X} (λ items. items.items) (Err misfit) whole
ends misfits.NoMemory read front values i value whole within is found before = tt
ends misfits.OtherForm read front values i value whole within is found before =
    let here : items_by read (items_view (drop i values)) ≡ None = step read values i value within is ∙ rw found in
    sym before ∙ ap (with_front front) here

-- All items are read.
pub is_done : {X : Type 0} (read : Data → Option X) (front : List X) (values : List Value) (i : ℕ) (whole : Option (List X)) → length values ≤ i
    → with_front front (items_by read (items_view (drop i values))) ≡ whole → whole ≡ Some front
unfolding items_by
is_done read front values i whole past before = sym before ∙ rw (drop_all i values past) (ap Some (append-nil front))
