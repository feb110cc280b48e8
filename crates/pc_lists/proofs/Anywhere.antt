-- What is so of some element of a list.
use Rattle.std.proofs.Common.{zero, suc, All, List, [], ◌∷◌, ◌++◌, Any, refl, sym, subst, arith}
use Rattle.std.proofs.lemmas.List.Elements.{All-head, All-tail}

module _ {X : Type 0} (P : X → Type 0) where
  pub any_head : (x : X) (xs : List X) → P x → Any P (x ∷ xs)
  any_head x xs h = (0, x, omega (arith), refl, h)

  pub any_later : (x : X) (xs : List X) → Any P xs → Any P (x ∷ xs)
  any_later x xs (k, y, low, is, h) = (suc k, y, omega arith, is, h)

  -- of the last one
  pub any_last : (xs : List X) (x : X) → P x → Any P (xs ++ x ∷ [])
  any_last [] x h = any_head x [] h
  any_last (y ∷ ys) x h = any_later y (ys ++ x ∷ []) (any_last ys x h)

  -- of one in front
  pub any_kept : (xs ys : List X) → Any P xs → Any P (xs ++ ys)
  any_kept [] ys (k, x, there, is, h) = absurd (omega arith)
  any_kept (y ∷ xs) ys (zero, x, there, is, h) = any_head y (xs ++ ys) (subst P (sym is) h)
  any_kept (y ∷ xs) ys (suc k, x, there, is, h) = any_later y (xs ++ ys) (any_kept xs ys (k, x, omega arith, is, h))

  -- of one behind
  pub any_behind : (xs ys : List X) → Any P ys → Any P (xs ++ ys)
  any_behind [] ys h = h
  any_behind (x ∷ xs) ys h = any_later x (xs ++ ys) (any_behind xs ys h)

  module _ (Q : X → Type 0) (on : (x : X) → P x → Q x) where
    pub any_weaker : (xs : List X) → Any P xs → Any Q xs
    any_weaker xs (k, x, there, is, h) = (k, x, there, is, on x h)

module _ {X : Type 0} (P Q : X → Type 0) where
  -- one that is so where all are that
  pub any_of : (xs : List X) → All P xs → Any Q xs → (x : X) × P x × Q x
  any_of [] a (k, x, there, is, h) = absurd (omega arith)
  any_of (y ∷ xs) a (zero, x, there, is, h) = (y, All-head P y xs a, subst Q (sym is) h)
  any_of (y ∷ xs) a (suc k, x, there, is, h) = any_of xs (All-tail P y xs a) (k, x, omega arith, is, h)
