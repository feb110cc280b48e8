-- Lists of which some element is so.
use Rattle.std.proofs.Common.{◌≡◌, ℕ, zero, suc, ◌==◌, ◌||◌, true, false, Bool, inl, inr, List, [], ◌∷◌, ◌++◌, map, All, Any, Contains, refl, ap, sym, ◌∙◌, subst, arith}
use Rattle.std.specs.List.{list_any}
use Rattle.std.proofs.lemmas.Bool.{eq-eqb}
use Rattle.std.proofs.lemmas.List.Elements.{All-head, All-tail}
use Rattle.pc_lists.proofs.Anywhere.{any_head, any_later, any_of}
use Rattle.pc_lists.proofs.Lists.{contains_cons, contains_nil}

or_true : (b : Bool) → (b || true) ≡ true
or_true true = refl
or_true false = refl

module _ {X : Type 0} (number : X → ℕ) (n : ℕ) where
  -- some element has the number that one of them has
  pub any_numbered : (xs : List X) (x : X) → Contains xs x → number x ≡ n → list_any (λ x. number x == n) xs ≡ true
  any_numbered [] x there e = absurd (contains_nil x there)
  any_numbered (y ∷ xs) x there e =
      elim (contains_cons y xs x there) [
        | inl is ↦ ap (λ b. b || list_any (λ x. number x == n) xs) (eq-eqb (number y) n (ap number is ∙ e))
        | inr later ↦ ap (λ b. (number y == n) || b) (any_numbered xs x later e) ∙ or_true (number y == n)
      ]

module _ {X : Type 0} (P : X → Type 0) where
  pub none_among : (xs : List X) → All (λ x. P x → ⊥) xs → Any P xs → ⊥
  none_among xs none some = let f = any_of (λ x. P x → ⊥) P xs none some in f.1 f.2

  -- none of the later ones is so
  pub any_before : (xs later : List X) → All (λ x. P x → ⊥) later → Any P (xs ++ later) → Any P xs
  any_before [] later none some = absurd (none_among later none some)
  any_before (x ∷ xs) later none (zero, y, there, is, h) = any_head P x xs (subst P (sym is) h)
  any_before (x ∷ xs) later none (suc k, y, there, is, h) = any_later P x xs (any_before xs later none (k, y, omega arith, is, h))

  module _ (Q : X → Type 0) (f : X → X) where
    -- each one that is so makes one that is so
    pub any_mapped : (xs : List X) → All (λ x. P x → Q (f x)) xs → Any P xs → Any Q (map f xs)
    any_mapped [] on (k, y, there, is, h) = absurd (omega arith)
    any_mapped (x ∷ xs) on (zero, y, there, is, h) = any_head Q (f x) (map f xs) (All-head (λ x. P x → Q (f x)) x xs on (subst P (sym is) h))
    any_mapped (x ∷ xs) on (suc k, y, there, is, h) = any_later Q (f x) (map f xs) (any_mapped xs (All-tail (λ x. P x → Q (f x)) x xs on) (k, y, omega arith, is, h))
