-- The numbers behind the least one are greater.
use Rattle.std.proofs.Common.{◌≡◌, ℕ, ◌<◌, List, [], ◌∷◌, All, sym}
use Rattle.std.proofs.lemmas.List.Elements.{All-cons, All-head, All-nil, All-tail}
use Rattle.std.specs.BTreeMap.Range.{IsLtBy}
use Rattle.std.specs.Cmp.{ranked}
use Rattle.std.specs.Map.{keys_of}
use Rattle.std.specs.Ordering.{nat_cmp}

pub all_above : {X : Type 0} (n : ℕ) (es : List (ℕ × X)) → All (IsLtBy nat_cmp n) (keys_of es) → All (λ (e : ℕ × X). n < e.0) es
all_above n [] above = All-nil _
all_above {X} n (e ∷ es) above =
    All-cons (λ (x : ℕ × X). n < x.0) e es (ranked n e.0 _ (sym (All-head (IsLtBy nat_cmp n) e.0 (keys_of es) above))) (all_above n es (All-tail (IsLtBy nat_cmp n) e.0 (keys_of es) above))
