-- How many elements of a list pass a test.
use Rattle.std.proofs.Common.{◌≡◌, ℕ, ◌+◌, Bool, cond, List, [], ◌∷◌, ◌++◌, count_by, arith}
use Rattle.std.proofs.lemmas.List.Sums.{sum_by-append, sum_by-cons}

-- One where the test is passed, else nothing.
abbrev pub one_if : Bool → ℕ
one_if b = cond b 1 0

module _ {X : Type 0} (p : X → Bool) where
  pub count-append : (xs ys : List X) → count_by p (xs ++ ys) ≡ count_by p xs + count_by p ys
  count-append xs ys = let f : X → ℕ = λ y. one_if (p y) in sum_by-append f xs ys

  pub count-cons : (x : X) (xs : List X) → count_by p (x ∷ xs) ≡ one_if (p x) + count_by p xs
  count-cons x xs = let f : X → ℕ = λ y. one_if (p y) in sum_by-cons f x xs

  pub count-push : (xs : List X) (x : X) → count_by p (xs ++ x ∷ []) ≡ count_by p xs + one_if (p x)
  count-push xs x = omega (arith, count-append xs (x ∷ []), count-cons x [])
