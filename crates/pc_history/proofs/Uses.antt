-- How the totals of uses change with each step.
use Rattle.std.proofs.Common.{◌≡◌, ◌≢◌, ℕ, zero, suc, ◌+◌, ◌-◌, ◌<◌, ◌≤◌, Bool, true, false, cond, eqb, nat_lt, ◌&&◌, List, [], ◌∷◌, ◌++◌, map, refl, ap, sym, ◌∙◌, arith, Some, Contains, sum_by, slice_get, slice_set, slice_index}
use Rattle.std.proofs.lemmas.Bool.{eq-eqb, eqb-true, ne_eqb}
use Rattle.std.proofs.lemmas.List.Sums.{sum_by-cons, sum_by-append, sum_by_push}
use Rattle.std.proofs.lemmas.Bool.Decides.{nat_tests}
use Rattle.pc_base.specs.declared.Entry.{Entry}
use Rattle.pc_history.specs.declared.pair.Pair.{Pair}
use Rattle.pc_history.specs.declared.view.Known.{Known}
use Rattle.pc_history.specs.Sense.{Sense}
use Rattle.pc_history.specs.Own.{named_in, pair, pairs_of}
use Rattle.pc_history.specs.Parts.{uses_at, uses_of, use_one, uses_left, without_uses, with_uses}
use Rattle.pc_history.specs.Closed.{spenders, names_step}
use Rattle.pc_history.proofs.Histories.{pairs_of-push, Rises, rises-least}
use Rattle.pc_lists.proofs.Lists.{get_contains, map_same}

module _ {E : Type 0} where
  pub uses_of-cons : (n : ℕ) (k : Known E) (ks : List (Known E)) → uses_of n (k ∷ ks) ≡ uses_at n k + uses_of n ks
  uses_of-cons n k ks = sum_by-cons (uses_at n) k ks

  pub uses_of-append : (n : ℕ) (xs ys : List (Known E)) → uses_of n (xs ++ ys) ≡ uses_of n xs + uses_of n ys
  uses_of-append n xs ys = sum_by-append (uses_at n) xs ys

  used_at : (step n : ℕ) (k : Known E) → 0 < uses_at step k → uses_at n (record k { uses = k.uses - 1 }) + cond (eqb step n) 1 0 ≡ uses_at n k
  used_at step n k some' =
      let is : (b : Bool) → eqb k.entry.step step ≡ b → 0 < cond b k.uses 0 → (k.entry.step ≡ step) × (0 < k.uses) = elim [
        | true ↦ λ e h. (eqb-true k.entry.step step e, h)
        | false ↦ λ e h. absurd (omega arith)
      ] in
      let r = is (eqb k.entry.step step) refl some' in
      let u : 0 < k.uses = r.1 in
      let by : (b : Bool) → cond b (k.uses - 1) 0 + cond b 1 0 ≡ cond b k.uses 0 = elim [ true ↦ omega arith | false ↦ omega arith ] in
      let same : eqb step n ≡ eqb k.entry.step n = ap (λ m. eqb m n) (sym r.0) in
      ap (λ b. cond (eqb k.entry.step n) (k.uses - 1) 0 + cond b 1 0) same ∙ by (eqb k.entry.step n)

  -- one use of the entry of this step is gone
  pub uses_of-use_one : (step n : ℕ) (ks : List (Known E)) → 0 < uses_of step ks → uses_of n (use_one step ks) + cond (eqb step n) 1 0 ≡ uses_of n ks
  uses_of-use_one step n [] h = absurd (omega arith)
  uses_of-use_one step n (k ∷ ks) h =
      let total : uses_of step (k ∷ ks) ≡ uses_at step k + uses_of step ks = uses_of-cons step k ks in
      let all : uses_of n (k ∷ ks) ≡ uses_at n k + uses_of n ks = uses_of-cons n k ks in
      let k' : Known E = record k { uses = k.uses - 1 } in
      let by : (b : Bool) → nat_lt 0 (uses_at step k) ≡ b → uses_of n (cond b (k' ∷ ks) (k ∷ use_one step ks)) + cond (eqb step n) 1 0 ≡ uses_of n (k ∷ ks) = elim [
        | true ↦ λ e.
            let some' : 0 < uses_at step k = grind (arith, nat_tests) in
            let here : uses_at n k' + cond (eqb step n) 1 0 ≡ uses_at n k = used_at step n k some' in
            let front : uses_of n (k' ∷ ks) ≡ uses_at n k' + uses_of n ks = uses_of-cons n k' ks in
            omega arith
        | false ↦ λ e.
            let none' : uses_at step k ≡ 0 = grind (arith, nat_tests) in
            let left : 0 < uses_of step ks = omega arith in
            let rest : uses_of n (use_one step ks) + cond (eqb step n) 1 0 ≡ uses_of n ks = uses_of-use_one step n ks left in
            let front : uses_of n (k ∷ use_one step ks) ≡ uses_at n k + uses_of n (use_one step ks) = uses_of-cons n k (use_one step ks) in
            omega arith
      ] in by (nat_lt 0 (uses_at step k)) refl

  -- a note and its copy have the uses that the note had
  pub uses_of-split : (n uses : ℕ) (ks : List (Known E)) → uses ≤ uses_left ks → uses_of n (without_uses uses ks) + uses_of n (with_uses uses ks) ≡ uses_of n ks
  uses_of-split n uses [] h = refl
  uses_of-split n uses (k ∷ ks) h =
      let a : uses_of n (k ∷ ks) ≡ uses_at n k + uses_of n ks = uses_of-cons n k ks in
      let k' : Known E = record k { uses = k.uses - uses } in
      let l : Known E = record k { uses = uses } in
      let b : uses_of n (k' ∷ ks) ≡ uses_at n k' + uses_of n ks = uses_of-cons n k' ks in
      let c : uses_of n (l ∷ []) ≡ uses_at n l + uses_of {E = E} n [] = uses_of-cons n l [] in
      let by : (b : Bool) → cond b (k.uses - uses) 0 + cond b uses 0 ≡ cond b k.uses 0 = elim [ true ↦ omega arith | false ↦ omega arith ] in
      let d : uses_at n k' + uses_at n l ≡ uses_at n k = by (eqb k.entry.step n) in
      let z : uses_of {E = E} n [] ≡ 0 = refl in
      omega arith

module _ {E : Type 0} (S : Sense E) where
  pub spenders-push : (n : ℕ) (history : List (Entry E)) (e : Entry E) → spenders S n (history ++ e ∷ []) ≡ spenders S n history + cond (S.spends e.event && names_step S n (named_in S history e.event)) 1 0
  spenders-push n history e =
      let f : Pair E → ℕ = λ p. cond (S.spends p.entry.event && names_step S n p.named) 1 0 in
      ap (λ ps. sum_by f ps) (pairs_of-push S history e) ∙ sum_by_push f (pairs_of S history) (pair e (named_in S history e.event))

-- so many more uses were given for the entry of this step
abbrev pub more_given : (ℕ → ℕ) → ℕ → ℕ → ℕ → ℕ
more_given given step uses n = given n + cond (eqb step n) uses 0

module _ {E : Type 0} where
  abbrev pub given_to : (ℕ → ℕ) → List (Pair E) → List ℕ
  given_to given ps = map (λ p. given p.entry.step) ps

  pub given-elsewhere : (given : ℕ → ℕ) (step uses : ℕ) (ps : List (Pair E)) → ((p : Pair E) → Contains ps p → p.entry.step ≢ step) → given_to (more_given given step uses) ps ≡ given_to given ps
  given-elsewhere given step uses ps away =
      map_same (λ p. more_given given step uses p.entry.step) (λ p. given p.entry.step) ps
      (λ p c. let no' : eqb step p.entry.step ≡ false = ne_eqb step p.entry.step (λ e. away p c (sym e)) in
      ap (λ b. given p.entry.step + cond b uses 0) no' ∙ omega arith)

  -- giving uses for the entry at a place adds them at that place
  pub given-here : (given : ℕ → ℕ) (uses n : ℕ) (ps : List (Pair E)) (place : ℕ) (p : Pair E) → Rises n ps → slice_get ps place ≡ Some p
      → given_to (more_given given p.entry.step uses) ps ≡ slice_set (given_to given ps) place (slice_index (given_to given ps) place + uses)
  given-here given uses n [] place p rises at = absurd cc
  given-here given uses n (q ∷ ps) zero p rises at =
      let same : q ≡ p = cc at in
      let same_step : p.entry.step ≡ q.entry.step = ap (λ (z : Pair E). z.entry.step) (sym same) in
      let yes' : eqb p.entry.step q.entry.step ≡ true = eq-eqb p.entry.step q.entry.step same_step in
      let rest = given-elsewhere given p.entry.step uses ps (λ r c e. let least : q.entry.step + 1 ≤ r.entry.step = rises-least (q.entry.step + 1) ps r rises.1 c in omega arith) in
      ap (λ b. (given q.entry.step + cond b uses 0) ∷ given_to (more_given given p.entry.step uses) ps) yes'
      ∙ ap (λ xs. (given q.entry.step + uses) ∷ xs) rest
  given-here given uses n (q ∷ ps) (suc place) p rises at =
      let least : q.entry.step + 1 ≤ p.entry.step = rises-least (q.entry.step + 1) ps p rises.1 (get_contains ps place p at) in
      let no' : eqb p.entry.step q.entry.step ≡ false = ne_eqb p.entry.step q.entry.step (λ e. omega arith) in
      let rest = given-here given uses (q.entry.step + 1) ps place p rises.1 at in
      let first : given q.entry.step + cond (eqb p.entry.step q.entry.step) uses 0 ≡ given q.entry.step = ap (λ b. given q.entry.step + cond b uses 0) no' ∙ omega arith in
      ap (λ x. x ∷ given_to (more_given given p.entry.step uses) ps) first ∙ ap (λ xs. given q.entry.step ∷ xs) rest
