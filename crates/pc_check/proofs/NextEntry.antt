-- The entries so far, with the next one.
use Rattle.std.proofs.Common.{◌≡◌, ℕ, ◌+◌, ◌<◌, List, [], ◌∷◌, ◌++◌, length, take, sym, ap, ◌∙◌, slice_index_or, arith}
use Rattle.std.proofs.lemmas.Grind.{common_steps}

take_next : {A : Type 0} (xs : List A) (place : ℕ) (x : A) → place < length xs → x ≡ slice_index_or xs place x → take (place + 1) xs ≡ take place xs ++ x ∷ []
take_next xs place x h e = grind (arith, common_steps)

pub next_taken : {A : Type 0} (xs : List A) (place : ℕ) (x : A) (before : List A) → before ≡ take place xs → place < length xs → x ≡ slice_index_or xs place x → before ++ x ∷ [] ≡ take (place + 1) xs
next_taken {A} xs place x before front h e = ap (λ (ys : List A). ys ++ x ∷ []) front ∙ sym (take_next xs place x h e)
