-- A list of writes in flight, one after the other.
use Rattle.std.proofs.Common.{◌≡◌, ◌↔◌, ◌<◌, ◌≤◌, ◌+◌, ℕ, zero, suc, Bool, true, false, List, [], ◌∷◌, Option, None, Some, drop, length, slice_index_or, refl, sym, ap, ◌∙◌, add-one, arith}
use Rattle.pc_may_send.specs.Staging.{listed_first}
use Rattle.pc_world.specs.Known.Writes.{Write, is_proved, listed_as, unproved}

pub drop_next : {X : Type 0} (n : ℕ) (xs : List X) (x : X) → n < length xs → x ≡ slice_index_or xs n x → drop n xs ≡ x ∷ drop (n + 1) xs
drop_next {X} n xs x low is = at n xs low is ∙ ap (λ m. x ∷ drop m xs) (sym (add-one n))
  where
    at : (m : ℕ) (ys : List X) → m < length ys → x ≡ slice_index_or ys m x → drop m ys ≡ x ∷ drop (suc m) ys
    at m [] low is = absurd (omega arith)
    at zero (y ∷ ys) low is = ap (λ z. z ∷ ys) (sym is)
    at (suc m) (y ∷ ys) low is = at m ys (omega arith) is

pub drop_end : {X : Type 0} (n : ℕ) (xs : List X) → length xs ≤ n → drop n xs ≡ []
drop_end zero [] low = refl
drop_end (suc n) [] low = refl
drop_end zero (x ∷ xs) low = absurd (omega arith)
drop_end (suc n) (x ∷ xs) low = drop_end n xs (omega arith)

in-flight : (w : Write) (ws : List Write) → listed_as (unproved (w ∷ ws)) ≡ listed_first w (listed_as (unproved ws))
in-flight w ws = by (is_proved w) refl
  where
    by : (b : Bool) → is_proved w ≡ b → listed_as (unproved (w ∷ ws)) ≡ listed_first w (listed_as (unproved ws))
    by true is = grind (arith, is)
    by false is = grind (arith, is)

module _ (listed rest : List (List ℕ × ℕ)) (ws : List Write) (n : ℕ) (w : Write) (low : n < length ws) (is : w ≡ slice_index_or ws n w)
    (so_far : (listed ≡ listed_as (unproved ws)) ↔ (rest ≡ listed_as (unproved (drop n ws))))
    (o : Option (List (List ℕ × ℕ))) (first : (later : List (List ℕ × ℕ)) → (o ≡ Some later) ↔ (rest ≡ listed_first w later)) where
  here : listed_as (unproved (drop n ws)) ≡ listed_first w (listed_as (unproved (drop (n + 1) ws)))
  here = ap (λ xs. listed_as (unproved xs)) (drop_next n ws w low is) ∙ in-flight w (drop (n + 1) ws)

  some-same : (one two : List (List ℕ × ℕ)) → Some one ≡ Some two → one ≡ two
  some-same one two e = cc

  pub next_listed : (later : List (List ℕ × ℕ)) → o ≡ Some later → (listed ≡ listed_as (unproved ws)) ↔ (later ≡ listed_as (unproved (drop (n + 1) ws)))
  next_listed later found = (
    λ e. some-same later (listed_as (unproved (drop (n + 1) ws))) (sym found ∙ (first (listed_as (unproved (drop (n + 1) ws)))).1 (so_far.0 e ∙ here)),
    λ e. so_far.1 ((first later).0 found ∙ ap (listed_first w) e ∙ sym here),
  )

  pub none_listed : o ≡ None → listed ≡ listed_as (unproved ws) → ⊥
  none_listed none e = let found = (first (listed_as (unproved (drop (n + 1) ws)))).1 (so_far.0 e ∙ here) in absurd (cc (sym none ∙ found))
