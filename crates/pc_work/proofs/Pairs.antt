-- Which lists have exactly two items.
use Rattle.std.proofs.Common.{◌≡◌, ◌≢◌, List, [], ◌∷◌, length, None, refl}
use Rattle.serde_json.specs.View.{items_view}
use Rattle.serde_json.specs.declared.value.Value.{Value}
use Rattle.pc_work.specs.Lists.{two_of}

-- Lists of another length have no pair.
pub two_of_none : (values : List Value) → length values ≢ 2 → two_of (items_view values) ≡ None
two_of_none [] other = refl
two_of_none (first ∷ []) other = refl
two_of_none (first ∷ second ∷ []) other = absurd (other refl)
two_of_none (first ∷ second ∷ third ∷ others) other = refl
