-- Judging the items of a list one by one, as a loop does.
use Rattle.std.proofs.Common.{◌≡◌, ℕ, suc, ◌+◌, ◌<◌, ◌≤◌, min, List, [], ◌∷◌, length, get_or, drop, Option, Some, None, refl, sym, ap, ◌∙◌, add-one, drop-cons, arith}
use Rattle.std.proofs.lemmas.List.{drop_all}
use Rattle.serde_json.specs.Data.{Data}
use Rattle.serde_json.specs.View.{view, items_view}
use Rattle.serde_json.specs.declared.value.Value.{Value}
use Rattle.pc_work.specs.Refusal.{how_many, in_items, least}

-- A list has as many items as values.
pub count_is : (values : List Value) → how_many (items_view values) ≡ length values
count_is [] = refl
count_is (value ∷ values) = ap suc (count_is values)

least_none : (one : Option ℕ) → least one None ≡ one
least_none None = refl
least_none (Some n) = refl

least_behind : (one two three : Option ℕ) → least (least one two) three ≡ least one (least two three)
least_behind None two three = refl
least_behind (Some n) None three = refl
least_behind (Some n) (Some m) None = refl
least_behind (Some n) (Some m) (Some l) = let e : min (min n m) l ≡ min n (min m l) = omega arith in ap Some e

-- The values that are left begin with the one at the index.
left : (values : List Value) (i : ℕ) (value : Value) → i < length values → value ≡ get_or values i value → drop i values ≡ value ∷ drop (i + 1) values
left values i value within is = rw (add-one, drop-cons values i value) (ap (λ first. first ∷ drop (suc i) values) (sym is))

-- One more item is judged.
pub goes_on : (refusal : Data → Option ℕ) (found : Option ℕ) (values : List Value) (i : ℕ) (value : Value) (whole : Option ℕ) → i < length values → value ≡ get_or values i value
    → least found (in_items refusal (items_view (drop i values))) ≡ whole → least (least found (refusal (view value))) (in_items refusal (items_view (drop (i + 1) values))) ≡ whole
goes_on refusal found values i value whole within is before =
    let here : in_items refusal (items_view (drop i values)) ≡ least (refusal (view value)) (in_items refusal (items_view (drop (i + 1) values))) = ap (λ vs. in_items refusal (items_view vs)) (left values i value within is) in
    least_behind found (refusal (view value)) (in_items refusal (items_view (drop (i + 1) values))) ∙ sym (ap (least found) here) ∙ before

-- All items are judged.
pub is_done : (refusal : Data → Option ℕ) (found : Option ℕ) (values : List Value) (i : ℕ) (whole : Option ℕ) → length values ≤ i
    → least found (in_items refusal (items_view (drop i values))) ≡ whole → found ≡ whole
is_done refusal found values i whole past before =
    let none : in_items refusal (items_view (drop i values)) ≡ None = ap (λ vs. in_items refusal (items_view vs)) (drop_all i values past) in
    sym (least_none found) ∙ sym (ap (least found) none) ∙ before
