-- Two lists whose items belong together, place by place.
use Rattle.std.proofs.Common.{◌≡◌, ℕ, suc, ◌<◌, List, [], ◌∷◌, length, slice_index_or, subst, arith}
use Rattle.std.proofs.lemmas.List.{get_or_default}
use Rattle.std.specs.List.{AllZip}

-- What is at each place of the one belongs to what is there in the other, whatever a place beyond the end would give.
pub zip_at_each : {X Y : Type 0} (R : X → Y → Type 0) (xs : List X) (ys : List Y) → length ys ≡ length xs → ((i : ℕ) (x : X) (y : Y) → i < length xs → R (slice_index_or xs i x) (slice_index_or ys i y)) → AllZip R xs ys
zip_at_each R [] [] long each = tt
zip_at_each R [] (y ∷ ys) long each = absurd (omega arith)
zip_at_each R (x ∷ xs) [] long each = absurd (omega arith)
zip_at_each R (x ∷ xs) (y ∷ ys) long each = (each 0 x y (omega arith), zip_at_each R xs ys (omega arith) (λ i a b lt. each (suc i) a b (omega arith)))

-- The same of two lists of one kind, where it is known only for one item that stands for what lies beyond either end.
pub zip_from : {X : Type 0} (R : X → X → Type 0) (xs ys : List X) → length ys ≡ length xs → ((i : ℕ) (d : X) → i < length xs → R (slice_index_or xs i d) (slice_index_or ys i d)) → AllZip R xs ys
zip_from R xs ys long each = zip_at_each R xs ys long (λ i x y lt. subst (λ z. R z (slice_index_or ys i y)) (get_or_default xs i y x lt) (each i y lt))
