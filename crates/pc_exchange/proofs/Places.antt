-- Places in the list of writes that a staging record has.
use Rattle.std.proofs.Common.{◌≡◌, ℕ, zero, suc, ◌+◌, ◌≤◌, ◌<◌, List, [], ◌∷◌, ◌++◌, take, drop, length, slice_get, Contains, Some, None, inl, inr, refl, sym, ap, ◌∙◌, subst, arith}
use Rattle.std.proofs.lemmas.List.{take_more}
use Rattle.std.proofs.lemmas.Option.{slice_get_cases}
use Rattle.pc_exchange.proofs.Listed.{SeqsRise}
use Rattle.pc_lists.proofs.Lists.{contains_cons, contains_nil}

take-all : (xs : List (List ℕ × ℕ)) (n : ℕ) → length xs ≤ n → take n xs ≡ xs
take-all [] zero low = refl
take-all [] (suc n) low = refl
take-all (x ∷ xs) zero low = absurd (omega arith)
take-all (x ∷ xs) (suc n) low = ap (λ l. x ∷ l) (take-all xs n (omega arith))

-- all are taken where none stands at the place
pub past_all : (writes : List (List ℕ × ℕ)) (n : ℕ) → slice_get writes n ≡ None → take n writes ≡ writes
past_all writes n none = elim ((slice_get_cases writes n).1) [ inl (x, low, is, same) ↦ absurd cc | inr (low, is) ↦ take-all writes n low ]

-- one more is taken
pub one_more : (writes : List (List ℕ × ℕ)) (n : ℕ) (w : List ℕ × ℕ) → slice_get writes n ≡ Some w → take (n + 1) writes ≡ take n writes ++ w ∷ []
one_more writes n w at =
    elim ((slice_get_cases writes n).1) [
      | inl (x, low, is, same) ↦ let e : w ≡ x = cc in take_more writes n x low ∙ ap (λ y. take n writes ++ y ∷ []) (same ∙ sym e)
      | inr (low, none) ↦ absurd cc
    ]

-- the writes before one, it, and those behind it
pub cut_at : (writes : List (List ℕ × ℕ)) (n : ℕ) (w : List ℕ × ℕ) → slice_get writes n ≡ Some w → writes ≡ take n writes ++ (w ∷ drop (n + 1) writes)
cut_at [] n w at = absurd cc
cut_at (x ∷ xs) zero w at = let same : x ≡ w = cc in ap (λ y. y ∷ xs) same
cut_at (x ∷ xs) (suc n) w at =
    let same : suc (n + 1) ≡ suc n + 1 = omega arith in
    ap (λ l. x ∷ l) (cut_at xs n w at) ∙ ap (λ k. x ∷ (take n xs ++ (w ∷ drop k (x ∷ xs)))) same

-- ---- writes whose sequences rise

seqs-above : (n : ℕ) (front : List (List ℕ × ℕ)) (w : List ℕ × ℕ) (later : List (List ℕ × ℕ)) → SeqsRise n (front ++ (w ∷ later)) → n < w.1
seqs-above n [] w later rise = rise.0
seqs-above n (x ∷ xs) w later rise = let low = rise.0 in let high = seqs-above x.1 xs w later rise.1 in omega (arith, low, high)

seqs-front : (n : ℕ) (front : List (List ℕ × ℕ)) (w : List ℕ × ℕ) (later : List (List ℕ × ℕ)) (x : List ℕ × ℕ) → SeqsRise n (front ++ (w ∷ later)) → Contains front x → x.1 < w.1
seqs-front n [] w later x rise there = absurd (contains_nil x there)
seqs-front n (y ∷ ys) w later x rise there =
    elim (contains_cons y ys x there) [
      | inl same ↦ subst (λ (v : List ℕ × ℕ). v.1 < w.1) same (seqs-above y.1 ys w later rise.1)
      | inr behind ↦ seqs-front y.1 ys w later x rise.1 behind
    ]

-- one that stands before another has a lower sequence
pub seqs_before : (writes : List (List ℕ × ℕ)) (n : ℕ) (w x : List ℕ × ℕ) → SeqsRise 0 writes → slice_get writes n ≡ Some w → Contains (take n writes) x → x.1 < w.1
seqs_before writes n w x rise at there = seqs-front 0 (take n writes) w (drop (n + 1) writes) x (subst (SeqsRise 0) (cut_at writes n w at) rise) there
