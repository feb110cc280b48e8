-- A key that is locked stays so, once another is.
use Rattle.std.proofs.Common.{◌≡◌, ℕ, Bool, true, false, cond, List, [], ◌∷◌, length, refl, sym, ap, ◌∙◌, subst, arith}
use Rattle.std.proofs.lemmas.Cmp.{nat_list_cmp_total}
use Rattle.std.specs.Cmp.Lexicographic.{slice_cmp}
use Rattle.std.specs.declared.cmp.Ordering.{Ordering}
use Rattle.std.specs.declared.cmp.Ordering.TheVariants as orderings
use Rattle.std.specs.Ordering.{is_eq, is_lt, nat_cmp, ordering_reverse}
use Rattle.pc_base.specs.Span.{key_below, same_key}
use Rattle.pc_lists.proofs.Same.{key_below-self, same_key-is}
use Rattle.pc_world.specs.Known.Transactions.{with_lock}

less-is : (o : Ordering) → is_lt o ≡ true → o ≡ orderings.Less
less-is orderings.Less h = refl
less-is orderings.Equal h = absurd cc
less-is orderings.Greater h = absurd cc

neither : (o : Ordering) → is_lt o ≡ false → is_eq o ≡ false → is_lt (ordering_reverse o) ≡ true
neither orderings.Less a b = absurd cc
neither orderings.Equal a b = absurd cc
neither orderings.Greater a b = refl

-- of two keys that differ, one is below the other
below_turned : (one other : List ℕ) → key_below one other ≡ false → same_key one other ≡ false → key_below other one ≡ true
below_turned one other low same = ap is_lt (nat_list_cmp_total.antisymm other one) ∙ neither (slice_cmp nat_cmp one other) low same

below_on : (a b c : List ℕ) → key_below a b ≡ true → key_below b c ≡ true → key_below a c ≡ true
below_on a b c low high = ap is_lt (nat_list_cmp_total.trans a b c (less-is (slice_cmp nat_cmp a b) low) (less-is (slice_cmp nat_cmp b c) high))

-- no key is below one that is below it
not_below : (a b : List ℕ) → key_below a b ≡ true → key_below b a ≡ false
not_below a b low = by (key_below b a) refl
  where
    by : (z : Bool) → key_below b a ≡ z → key_below b a ≡ false
    by false is = is
    by true is = let self : key_below a a ≡ true = below_on a b a low is in let none = key_below-self a in absurd cc

not_same : (a b : List ℕ) → key_below a b ≡ true → same_key b a ≡ false
not_same a b low = by (same_key b a) refl
  where
    by : (z : Bool) → same_key b a ≡ z → same_key b a ≡ false
    by false is = is
    by true is = let self : key_below a a ≡ true = subst (λ k. key_below a k ≡ true) (same_key-is b a is) low in let none = key_below-self a in absurd cc

-- the locks with a key, by whether it is below the first of them or the same
with_by : (key lock : List ℕ) (locks : List (List ℕ)) (below same : Bool) → key_below key lock ≡ below → same_key key lock ≡ same
    → with_lock key (lock ∷ locks) ≡ cond below (key ∷ lock ∷ locks) (cond same (lock ∷ locks) (lock ∷ with_lock key locks))
with_by key lock locks below same b s =
    ap (λ z. cond z (key ∷ lock ∷ locks) (cond (same_key key lock) (lock ∷ locks) (lock ∷ with_lock key locks))) b
    ∙ ap (λ z. cond below (key ∷ lock ∷ locks) (cond z (lock ∷ locks) (lock ∷ with_lock key locks))) s

longer : (lock : List ℕ) (locks : List (List ℕ)) (key : List ℕ) → key ∷ lock ∷ locks ≡ lock ∷ locks → ⊥
longer lock locks key e = let n : length (key ∷ lock ∷ locks) ≡ length (lock ∷ locks) = ap length e in omega (arith, n)

tail_same : (lock : List ℕ) (one other : List (List ℕ)) → lock ∷ one ≡ lock ∷ other → one ≡ other
tail_same lock one other e = cc

-- a key that stands with others above it stands so behind one that is below
behind : (key other lock : List ℕ) (locks : List (List ℕ)) → key_below other key ≡ true → with_lock key (lock ∷ locks) ≡ lock ∷ locks → with_lock key (other ∷ lock ∷ locks) ≡ other ∷ lock ∷ locks
behind key other lock locks low locked =
    with_by key other (lock ∷ locks) false false (not_below other key low) (not_same other key low) ∙ ap (λ ls. other ∷ ls) locked

-- The key stays locked once the other one is.
abbrev StaysLocked : List ℕ → List ℕ → List (List ℕ) → Type 0
StaysLocked key other locks = with_lock key (with_lock other locks) ≡ with_lock other locks

made_by : (key other : List ℕ) (locks result : List (List ℕ)) → with_lock other locks ≡ result → with_lock key result ≡ result → StaysLocked key other locks
made_by key other locks result is kept = ap (with_lock key) is ∙ kept ∙ sym is

pub locked-kept : (key other : List ℕ) (locks : List (List ℕ)) → with_lock key locks ≡ locks → StaysLocked key other locks
locked-kept key other [] locked = let n : length (with_lock key []) ≡ length {A = List ℕ} [] = ap length locked in absurd (omega (arith, n))
locked-kept key other (lock ∷ locks) locked = by (key_below key lock) (same_key key lock) (key_below other lock) (same_key other lock) refl refl refl refl (locked-kept key other locks)
  where
    by : (b s below same : Bool) → key_below key lock ≡ b → same_key key lock ≡ s → key_below other lock ≡ below → same_key other lock ≡ same → (with_lock key locks ≡ locks → StaysLocked key other locks) → StaysLocked key other (lock ∷ locks)
    by true s below same kb ks ob os later = absurd (longer lock locks key (sym (with_by key lock locks true s kb ks) ∙ locked))
    by false true true same kb ks ob os later =
        made_by key other (lock ∷ locks) (other ∷ lock ∷ locks) (with_by other lock locks true same ob os)
        (behind key other lock locks (subst (λ k. key_below other k ≡ true) (sym (same_key-is key lock ks)) ob) locked)
    by false false true same kb ks ob os later =
        made_by key other (lock ∷ locks) (other ∷ lock ∷ locks) (with_by other lock locks true same ob os)
        (behind key other lock locks (below_on other lock key ob (below_turned key lock kb ks)) locked)
    by false s false true kb ks ob os later = made_by key other (lock ∷ locks) (lock ∷ locks) (with_by other lock locks false true ob os) locked
    by false true false false kb ks ob os later =
        made_by key other (lock ∷ locks) (lock ∷ with_lock other locks) (with_by other lock locks false false ob os) (with_by key lock (with_lock other locks) false true kb ks)
    by false false false false kb ks ob os later =
        made_by key other (lock ∷ locks) (lock ∷ with_lock other locks) (with_by other lock locks false false ob os)
        (with_by key lock (with_lock other locks) false false kb ks
        ∙ ap (λ ls. lock ∷ ls) (later (tail_same lock (with_lock key locks) locks (sym (with_by key lock locks false false kb ks) ∙ locked))))
