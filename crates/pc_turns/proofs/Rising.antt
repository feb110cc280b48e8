-- Lists whose steps rise.
use Rattle.std.proofs.Common.{◌≡◌, ℕ, ◌+◌, ◌<◌, ◌≤◌, ◌⊎◌, inl, inr, Bool, true, false, cond, List, [], ◌∷◌, ◌++◌, Contains, filter, length, refl, sym, ap, subst, ◌∙◌, arith, length-append}
use Rattle.pc_base.specs.declared.entry.Entry.{Entry}
use Rattle.pc_history.specs.declared.pair.Pair.{Pair}
use Rattle.pc_history.specs.History.{IsFineAfter, IsFine}
use Rattle.pc_history.specs.Own.{named_in, pair, pairs_after, pairs_of}
use Rattle.pc_history.specs.Sense.{Sense}
use Rattle.pc_lists.proofs.Lists.{contains_cons, contains_head, contains_nil, contains_tail, nothing_contained}
use Rattle.pc_proto.specs.declared.event.Event.{Event}
use Rattle.pc_turns.specs.Clients.{RisesFrom}
use Rattle.std.proofs.lemmas.List.Elements.{Contains-append_right}

pub rises_weaker : (m n : ℕ) (ps : List (Pair Event)) → m ≤ n → RisesFrom n ps → RisesFrom m ps
rises_weaker m n [] le r = tt
rises_weaker m n (p ∷ ps) le r = let first : n ≤ p.entry.step = r.0 in (omega arith, r.1)

pub rises_least : (n : ℕ) (ps : List (Pair Event)) (p : Pair Event) → RisesFrom n ps → Contains ps p → n ≤ p.entry.step
rises_least n [] p r c = absurd (contains_nil p c)
rises_least n (q ∷ ps) p r c =
    let first : n ≤ q.entry.step = r.0 in
    elim (contains_cons q ps p c) [
      | inl same ↦ subst (λ (z : Pair Event). n ≤ z.entry.step) same first
      | inr later ↦ let rest : q.entry.step + 1 ≤ p.entry.step = rises_least (q.entry.step + 1) ps p r.1 later in omega arith
    ]

-- of two lists one behind the other, each entry of the first comes before each of the second
pub rises_across : (n : ℕ) (xs ys : List (Pair Event)) (x y : Pair Event) → RisesFrom n (xs ++ ys) → Contains xs x → Contains ys y → x.entry.step < y.entry.step
rises_across n [] ys x y r cx cy = absurd (contains_nil x cx)
rises_across n (z ∷ xs) ys x y r cx cy =
    elim (contains_cons z xs x cx) [
      | inl same ↦
          (let least : z.entry.step + 1 ≤ y.entry.step = rises_least (z.entry.step + 1) (xs ++ ys) y r.1 (Contains-append_right xs ys y cy) in
          subst (λ (q : Pair Event). q.entry.step < y.entry.step) same (omega arith))
      | inr later ↦ rises_across (z.entry.step + 1) xs ys x y r.1 later cy
    ]

-- the chosen entries of a fine history rise
module _ (S : Sense Event) (test : Pair Event → Bool) where
  chosen_after : (before xs : List (Entry Event)) → IsFineAfter S before xs → RisesFrom (length before) (filter test (pairs_after S before xs))
  chosen_after before [] fine = tt
  chosen_after before (x ∷ xs) fine =
      let rest = chosen_after (before ++ x ∷ []) xs fine.1 in
      let long : length (before ++ x ∷ []) ≡ length before + 1 = length-append before (x ∷ []) in
      let at : x.step ≡ length before = fine.0.step in
      let ps = filter test (pairs_after S (before ++ x ∷ []) xs) in
      let by : (b : Bool) → RisesFrom (length before) (cond b (pair x (named_in S before x.event) ∷ ps) ps) = elim [
        | true ↦ (omega arith, rises_weaker (x.step + 1) (length (before ++ x ∷ [])) ps (omega arith) rest)
        | false ↦ rises_weaker (length before) (length (before ++ x ∷ [])) ps (omega arith) rest
      ] in by (test (pair x (named_in S before x.event)))

  pub chosen_rise : (history : List (Entry Event)) → IsFine S history → RisesFrom 0 (filter test (pairs_of S history))
  chosen_rise history fine = chosen_after [] history fine

-- what is among all, and before all else there, stands in front
pub stands_in_front : (n m : ℕ) (first all : List (Pair Event)) → RisesFrom n all → RisesFrom m first
    → ((x : Pair Event) → Contains first x → Contains all x)
    → ((y : Pair Event) → Contains all y → Contains first y ⊎ ((x : Pair Event) → Contains first x → x.entry.step < y.entry.step))
    → (rest : List (Pair Event)) × (all ≡ first ++ rest)
stands_in_front n m [] all ra rf sub or = (all, refl)
stands_in_front n m (x ∷ first) [] ra rf sub or = absurd (contains_nil x (sub x (contains_head x first)))
stands_in_front n m (x ∷ first) (d ∷ all) ra rf sub or =
    let behind : (y : Pair Event) → Contains all y → d.entry.step < y.entry.step = λ y c. (let l : d.entry.step + 1 ≤ y.entry.step = rises_least (d.entry.step + 1) all y ra.1 c in omega arith) in
    let above : (y : Pair Event) → Contains first y → x.entry.step < y.entry.step = λ y c. (let l : x.entry.step + 1 ≤ y.entry.step = rises_least (x.entry.step + 1) first y rf.1 c in omega arith) in
    let not_behind : Contains all x → x ≡ d = λ c.
    (let low : d.entry.step < x.entry.step = behind x c in
    elim (or d (contains_head d all)) [
      | inl among ↦ elim (contains_cons x first d among) [
        | inl same ↦ same
        | inr later ↦ (let high : x.entry.step < d.entry.step = above d later in absurd (omega arith))
      ]
      | inr later ↦ (let high : x.entry.step < d.entry.step = later x (contains_head x first) in absurd (omega arith))
    ]) in
    let same : x ≡ d = elim (contains_cons d all x (sub x (contains_head x first))) [
      | inl e ↦ sym e
      | inr c ↦ not_behind c
    ] in
    let step : x.entry.step ≡ d.entry.step = ap (λ (p : Pair Event). p.entry.step) same in
    let rest = stands_in_front (d.entry.step + 1) (x.entry.step + 1) first all ra.1 rf.1
    (λ y c. elim (contains_cons d all y (sub y (contains_tail x first y c))) [
      | inl e ↦ (let high : x.entry.step < y.entry.step = above y c in let at : d.entry.step ≡ y.entry.step = ap (λ (p : Pair Event). p.entry.step) e in absurd (omega arith))
      | inr there ↦ there
    ])
    (λ y c. elim (or y (contains_tail d all y c)) [
      | inl among ↦ elim (contains_cons x first y among) [
        | inl e ↦ (let high : d.entry.step < y.entry.step = behind y c in let at : x.entry.step ≡ y.entry.step = ap (λ (p : Pair Event). p.entry.step) e in absurd (omega arith))
        | inr there ↦ inl there
      ]
      | inr later ↦ inr (λ z cz. later z (contains_tail x first z cz))
    ]) in
    let other : d ∷ all ≡ x ∷ all = ap (λ (p : Pair Event). p ∷ all) (sym same) in
    let whole : x ∷ all ≡ x ∷ (first ++ rest.0) = ap (λ ps. x ∷ ps) rest.1 in
    (rest.0, other ∙ whole)

-- where nothing else is there, it is all
pub is_all_of : (n : ℕ) (first rest : List (Pair Event)) → RisesFrom n (first ++ rest) → ((y : Pair Event) → Contains rest y → Contains first y) → rest ≡ []
is_all_of n first rest r among = nothing_contained rest (λ y c. let no : y.entry.step < y.entry.step = rises_across n first rest y y r (among y c) c in omega arith)
