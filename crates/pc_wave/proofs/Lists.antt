-- Lists to which more elements came.
use Rattle.std.proofs.Common.{◌≡◌, ◌≢◌, ℕ, zero, suc, ◌+◌, ◌≤◌, ◌<◌, nat_lt, Bool, true, false, cond, ◌==◌, ◌||◌, inl, inr, List, [], ◌∷◌, ◌++◌, find, Some, None, refl, sym, ap, ◌∙◌, subst, arith, All, Any}
use Rattle.std.specs.List.{list_any}
use Rattle.std.proofs.lemmas.Bool.{eq-eqb, ne_eqb, ltb-false}
use Rattle.std.proofs.lemmas.List.Elements.{All-head, All-tail}
use Rattle.pc_base.specs.declared.limits.TheConstants.{MOST_CONFLICTS}
use Rattle.pc_lists.proofs.Anywhere.{any_head, any_later}
use Rattle.pc_wave.specs.Messages.{one_conflict_more}
use Rattle.pc_world.specs.Counting.{AtLeast, LastIs}

module _ {X : Type 0} (P : X → Type 0) where
  none_of : (xs : List X) → All (λ x. P x → ⊥) xs → Any P xs → ⊥
  none_of [] a (k, x, there, is, h) = absurd (omega arith)
  none_of (y ∷ xs) a (zero, x, there, is, h) = All-head (λ x. P x → ⊥) y xs a (subst P (sym is) h)
  none_of (y ∷ xs) a (suc k, x, there, is, h) = none_of xs (All-tail (λ x. P x → ⊥) y xs a) (k, x, omega arith, is, h)

  -- one that is so stands before those of which none is
  pub any_before : (xs ys : List X) → All (λ x. P x → ⊥) ys → Any P (xs ++ ys) → Any P xs
  any_before [] ys a some = absurd (none_of ys a some)
  any_before (x ∷ xs) ys a (zero, y, there, is, h) = any_head P x xs (subst P (sym is) h)
  any_before (x ∷ xs) ys a (suc k, y, there, is, h) = any_later P x xs (any_before xs ys a (k, y, omega arith, is, h))

  pub at_least-kept : (n : ℕ) (xs ys : List X) → AtLeast P n xs → AtLeast P n (xs ++ ys)
  at_least-kept zero xs ys h = tt
  at_least-kept (suc n) [] ys h = absurd h
  at_least-kept (suc n) (x ∷ xs) ys (inl (p, h)) = inl (p, at_least-kept n xs ys h)
  at_least-kept (suc n) (x ∷ xs) ys (inr h) = inr (at_least-kept (suc n) xs ys h)

  at_least-none : (n : ℕ) (xs : List X) → All (λ x. P x → ⊥) xs → AtLeast P (suc n) xs → ⊥
  at_least-none n [] a h = h
  at_least-none n (x ∷ xs) a (inl (p, h)) = All-head (λ x. P x → ⊥) x xs a p
  at_least-none n (x ∷ xs) a (inr h) = at_least-none n xs (All-tail (λ x. P x → ⊥) x xs a) h

  -- as many are so before those of which none is
  pub at_least-before : (n : ℕ) (xs ys : List X) → All (λ x. P x → ⊥) ys → AtLeast P n (xs ++ ys) → AtLeast P n xs
  at_least-before zero xs ys a h = tt
  at_least-before (suc n) [] ys a h = absurd (at_least-none n ys a h)
  at_least-before (suc n) (x ∷ xs) ys a (inl (p, h)) = inl (p, at_least-before n xs ys a h)
  at_least-before (suc n) (x ∷ xs) ys a (inr h) = inr (at_least-before (suc n) xs ys a h)

  pub at_least-push : (n : ℕ) (xs : List X) (x : X) → AtLeast P n xs → P x → AtLeast P (suc n) (xs ++ x ∷ [])
  at_least-push zero [] x h p = inl (p, tt)
  at_least-push zero (y ∷ ys) x h p = inr (at_least-push zero ys x tt p)
  at_least-push (suc n) [] x h p = absurd h
  at_least-push (suc n) (y ∷ ys) x (inl (q, h)) p = inl (q, at_least-push n ys x h p)
  at_least-push (suc n) (y ∷ ys) x (inr h) p = inr (at_least-push (suc n) ys x h p)

  pub at_least-one : (n : ℕ) (xs : List X) (x : X) → AtLeast P n xs → P x → AtLeast P (n + 1) (xs ++ x ∷ [])
  at_least-one n xs x h p = let e : suc n ≡ n + 1 = omega arith in subst (λ m. AtLeast P m (xs ++ x ∷ [])) e (at_least-push n xs x h p)

  -- one fewer is so without the last
  pub at_least-pop : (n : ℕ) (xs : List X) (x : X) → AtLeast P (suc n) (xs ++ x ∷ []) → AtLeast P n xs
  at_least-pop zero xs x h = tt
  at_least-pop (suc n) [] x (inl (p, h)) = absurd h
  at_least-pop (suc n) [] x (inr h) = absurd h
  at_least-pop (suc n) (y ∷ ys) x (inl (p, h)) = inl (p, at_least-pop n ys x h)
  at_least-pop (suc n) (y ∷ ys) x (inr h) = inr (at_least-pop (suc n) ys x h)

  pub at_least-fewer : (m n : ℕ) (xs : List X) → m ≤ n → AtLeast P n xs → AtLeast P m xs
  at_least-fewer zero n xs h a = tt
  at_least-fewer (suc m) zero xs h a = absurd (omega arith)
  at_least-fewer (suc m) (suc n) [] h a = absurd a
  at_least-fewer (suc m) (suc n) (x ∷ xs) h (inl (p, a)) = inl (p, at_least-fewer m n xs (omega arith) a)
  at_least-fewer (suc m) (suc n) (x ∷ xs) h (inr a) = inr (at_least-fewer (suc m) (suc n) xs h a)

  -- the last that is so is this one, where none behind it is so
  pub last-in : (Q : X → Type 0) (before : List X) (x : X) (later : List X) → P x → Q x → All (λ y. P y → ⊥) later → LastIs P Q (before ++ x ∷ later)
  last-in Q [] x later p q none = inr (p, q, none)
  last-in Q (y ∷ before) x later p q none = inl (last-in Q before x later p q none)

  -- as many are so with one more, and no more
  module _ (n : ℕ) (few : n < MOST_CONFLICTS) where
    suc_is : suc n ≡ n + 1
    suc_is = omega arith

    suc_suc_is : n + 1 + 1 ≡ suc (n + 1)
    suc_suc_is = omega arith

    one_more_is : one_conflict_more n ≡ n + 1
    one_more_is = by (nat_lt n MOST_CONFLICTS) refl
      where
        by : (b : Bool) → nat_lt n MOST_CONFLICTS ≡ b → cond b (n + 1) MOST_CONFLICTS ≡ n + 1
        by true low = refl
        by false high = let h : MOST_CONFLICTS ≤ n = ltb-false n MOST_CONFLICTS high in absurd (omega arith)

    pub counted_more : (xs : List X) (x : X) → AtLeast P n xs → P x → AtLeast P (one_conflict_more n) (xs ++ x ∷ [])
    counted_more xs x a p = subst (λ m. AtLeast P m (xs ++ x ∷ [])) (suc_is ∙ sym one_more_is) (at_least-push n xs x a p)

    pub counted_one : (xs : List X) → AtLeast P (n + 1) xs → AtLeast P (one_conflict_more n) xs
    counted_one xs a = subst (λ m. AtLeast P m xs) (sym one_more_is) a

    pub counted_no_more : (xs : List X) (x : X) → (AtLeast P (n + 1) xs → ⊥) → AtLeast P (one_conflict_more n + 1) (xs ++ x ∷ []) → ⊥
    counted_no_more xs x none a =
        none (at_least-pop (n + 1) xs x (subst (λ m. AtLeast P m (xs ++ x ∷ [])) (ap (λ m. m + 1) one_more_is ∙ suc_suc_is) a))

or-kept : (b c d : Bool) → (c ≡ true → d ≡ true) → (b || c) ≡ true → (b || d) ≡ true
or-kept true c d on h = refl
or-kept false c d on h = on h

pub any_true_kept : {X : Type 0} (p : X → Bool) (xs ys : List X) → list_any p xs ≡ true → list_any p (xs ++ ys) ≡ true
any_true_kept p [] ys h = absurd cc
any_true_kept p (x ∷ xs) ys h = or-kept (p x) (list_any p xs) (list_any p (xs ++ ys)) (any_true_kept p xs ys) h

module _ {X : Type 0} (number : X → ℕ) (n : ℕ) where
  -- the first of this number is the last one, where none before it has it
  pub find-last : (before : List X) (m : X) → All (λ x. number x ≢ n) before → number m ≡ n → find (λ x. number x == n) (before ++ m ∷ []) ≡ Some m
  find-last [] m a e = ap (λ b. cond b (Some m) None) (eq-eqb (number m) n e)
  find-last (x ∷ before) m a e =
      let other : (number x == n) ≡ false = ne_eqb (number x) n (All-head (λ x. number x ≢ n) x before a) in
      ap (λ b. cond b (Some x) (find (λ x. number x == n) (before ++ m ∷ []))) other
      ∙ find-last before m (All-tail (λ x. number x ≢ n) x before a) e

  pub any_last_of : (before : List X) (m : X) → number m ≡ n → list_any (λ x. number x == n) (before ++ m ∷ []) ≡ true
  any_last_of [] m e = ap (λ b. b || false) (eq-eqb (number m) n e)
  any_last_of (x ∷ before) m e = ap (λ b. (number x == n) || b) (any_last_of before m e) ∙ or_true (number x == n)
    where
      or_true : (b : Bool) → (b || true) ≡ true
      or_true true = refl
      or_true false = refl
