-- One key's versions, by timestamp: what stands at a place, and where a version goes.
use Rattle.std.proofs.Common.{◌≡◌, ℕ, zero, suc, ◌-◌, ◌<◌, ◌≤◌, Bool, true, false, ◌&&◌, nat_le, nat_lt, cond, if◌then◌else◌, List, [], ◌∷◌, length, take, filter, find, fold, Option, None, Some, IfSome, slice_get, slice_index_or, refl, sym, ap, subst, ◌∙◌, arith}
use Rattle.std.proofs.lemmas.Cmp.{nat_list_cmp_total, tied_itself}
use Rattle.std.proofs.lemmas.Grind.{common_steps}
use Rattle.std.proofs.lemmas.Option.{get_or_from_slice_get, slice_get_within}
use Rattle.std.proofs.lemmas.List.Elements.{recursion_from_All}
use Rattle.std.proofs.lemmas.List.Sorted.{IsNonDecreasingBy-insert, IsNonDecreasingBy-short}
use Rattle.std.specs.Cmp.Lexicographic.{slice_cmp}
use Rattle.std.specs.declared.cmp.Ordering.TheVariants.{Equal}
use Rattle.std.specs.List.{AllByRecursion as Each, insert}
use Rattle.std.specs.List.Sorted.{IsNonDecreasingBy, IsPartitionPoint}
use Rattle.std.specs.Ordering.{is_lt, nat_cmp, ordering_then}
use Rattle.pc_base.proofs.VersionOrder.{each_with_version}
use Rattle.pc_base.specs.declared.version.Version.{Version}
use Rattle.pc_base.specs.Versions.{later, version_cmp, with_version}
use Rattle.pc_mvcc.specs.Chains.{IsChain}

module _ {X : Type 0} (P Q : X → Type 0) (x : X) (xs : List X) where
  -- a place further on in a list is one before in its rest
  pub point_rest : (i : ℕ) → IsPartitionPoint P Q (x ∷ xs) (suc i) → IsPartitionPoint P Q xs i
  point_rest i h = (
    λ k d low high. h.0 (suc k) d (omega arith) (omega arith),
    λ k d low high. h.1 (suc k) d (omega arith) (omega arith),
  )

  pub point_first : (i : ℕ) → IsPartitionPoint P Q (x ∷ xs) (suc i) → P x
  point_first i h = h.0 0 x (omega arith) (omega arith)

  pub point_last : IsPartitionPoint P Q (x ∷ xs) 0 → Q x
  point_last h = h.1 0 x (omega arith) (omega arith)

  pub point_none : IsPartitionPoint P Q (x ∷ xs) 0 → IsPartitionPoint P Q xs 0
  point_none h = (
    λ k d low high. absurd (omega arith),
    λ k d low high. h.1 (suc k) d (omega arith) (omega arith),
  )

pub rising_rest : (x : Version) (xs : List Version) → IsNonDecreasingBy (λ v. v.ts) (x ∷ xs) → IsNonDecreasingBy (λ v. v.ts) xs
rising_rest x xs h = λ i j d low high. h (suc i) (suc j) d (omega arith) (omega arith)

rising-first : (x : Version) (xs : List Version) → IsNonDecreasingBy (λ v. v.ts) (x ∷ xs) → (k : ℕ) (d : Version) → k < length xs → x.ts ≤ (slice_index_or xs k d).ts
rising-first x xs h k d inside = h 0 (suc k) d (omega arith) (omega arith)

take-none : {X : Type 0} (xs : List X) → take zero xs ≡ []
take-none xs = refl

-- what passes up to a place and no further is what stands before it
pub filtered_to : {X : Type 0} (test : X → Bool) (xs : List X) (n : ℕ) → n ≤ length xs → IsPartitionPoint (λ x. test x ≡ true) (λ x. test x ≡ false) xs n → filter test xs ≡ take n xs
filtered_to test [] zero low h = refl
filtered_to test [] (suc n) low h = absurd (omega arith)
filtered_to test (x ∷ xs) zero low h =
    ap (λ b. cond b (x ∷ filter test xs) (filter test xs)) (point_last (λ x. test x ≡ true) (λ x. test x ≡ false) x xs h)
    ∙ (filtered_to test xs zero (omega arith) (point_none (λ x. test x ≡ true) (λ x. test x ≡ false) x xs h) ∙ take-none xs)
filtered_to test (x ∷ xs) (suc n) low h =
    ap (λ b. cond b (x ∷ filter test xs) (filter test xs)) (point_first (λ x. test x ≡ true) (λ x. test x ≡ false) x xs n h)
    ∙ ap (λ ys. x ∷ ys) (filtered_to test xs n (omega arith) (point_rest (λ x. test x ≡ true) (λ x. test x ≡ false) x xs n h))

module _ (t : ℕ) where
  -- The best so far lies below.
  pub IsLow : Option Version → Type 0
  IsLow best = IfSome best (λ b. b.ts < t)

  low-later : (best : Option Version) (v : Version) → IsLow best → v.ts < t → IsLow (later best v)
  unfolding IsLow
  low-later None v h k = k
  low-later (Some b) v h k = by (nat_lt b.ts v.ts)
    where
      by : (c : Bool) → IfSome (if c then Some v else Some b) (λ b. b.ts < t)
      by true = k
      by false = h

  takes : (best : Option Version) (v : Version) → IsLow best → t ≤ v.ts → later best v ≡ Some v
  unfolding IsLow
  takes None v h k = refl
  takes (Some b) v h k = let above : b.ts < v.ts = omega (arith, h, k) in grind arith

  stays : (v : Version) (xs : List Version) → t ≤ v.ts → Each (λ w. w.ts ≤ t) xs → fold later (Some v) xs ≡ Some v
  stays v [] h a = refl
  stays v (w ∷ ws) h a = let kept : later (Some v) w ≡ Some v = let low : w.ts ≤ t = a.0 in grind arith in ap (λ best. fold later best ws) kept ∙ stays v ws h a.1

  -- the first that is not below the greatest timestamp is the greatest
  pub greatest_at : (best : Option Version) (xs : List Version) (place : ℕ) → IsLow best → IsPartitionPoint (λ v. nat_lt v.ts t ≡ true) (λ v. nat_lt v.ts t ≡ false) xs place → Each (λ v. v.ts ≤ t) xs → place < length xs
      → slice_get xs place ≡ fold later best xs
  greatest_at best [] place low h a inside = absurd (omega arith)
  greatest_at best (x ∷ xs) zero low h a inside =
      let high : nat_lt x.ts t ≡ false = point_last (λ v. nat_lt v.ts t ≡ true) (λ v. nat_lt v.ts t ≡ false) x xs h in
      let there : t ≤ x.ts = grind arith in
      sym (ap (λ best. fold later best xs) (takes best x low there) ∙ stays x xs there a.1)
  greatest_at best (x ∷ xs) (suc place) low h a inside =
      let under : nat_lt x.ts t ≡ true = point_first (λ v. nat_lt v.ts t ≡ true) (λ v. nat_lt v.ts t ≡ false) x xs place h in
      let below : x.ts < t = grind arith in
      greatest_at (later best x) xs place (low-later best x low below) (point_rest (λ v. nat_lt v.ts t ≡ true) (λ v. nat_lt v.ts t ≡ false) x xs place h) a.1 (omega arith)

pub none_is_low : (t : ℕ) → IsLow t None
unfolding IsLow
none_is_low t = tt

numbers-less : (m n : ℕ) → is_lt (nat_cmp m n) ≡ nat_lt m n
numbers-less m n = grind (arith, common_steps)

-- of two versions of one key the one of the lesser timestamp stands before
pub before_of_one_key : (v w : Version) → v.key ≡ w.key → is_lt (version_cmp v w) ≡ nat_lt v.ts w.ts
before_of_one_key v w same =
    let tied : slice_cmp nat_cmp v.key w.key ≡ Equal = subst (λ k. slice_cmp nat_cmp v.key k ≡ Equal) same (tied_itself nat_list_cmp_total v.key) in
    ap (λ o. is_lt (ordering_then o (nat_cmp v.ts w.ts))) tied ∙ numbers-less v.ts w.ts

-- a version goes behind those that are not above it
pub put_at : (v : Version) (xs : List Version) (place : ℕ) → Each (λ w. w.key ≡ v.key) xs → place ≤ length xs → IsPartitionPoint (λ w. nat_le w.ts v.ts ≡ true) (λ w. nat_le w.ts v.ts ≡ false) xs place → insert xs place v ≡ with_version xs v
put_at v [] zero own low h = refl
put_at v [] (suc place) own low h = absurd (omega arith)
put_at v (x ∷ xs) zero own low h =
    let high : nat_le x.ts v.ts ≡ false = point_last (λ w. nat_le w.ts v.ts ≡ true) (λ w. nat_le w.ts v.ts ≡ false) x xs h in
    let before : is_lt (version_cmp v x) ≡ true = before_of_one_key v x (sym own.0) ∙ (grind arith) in
    sym (ap (λ b. if b then v ∷ x ∷ xs else x ∷ with_version xs v) before)
put_at v (x ∷ xs) (suc place) own low h =
    let under : nat_le x.ts v.ts ≡ true = point_first (λ w. nat_le w.ts v.ts ≡ true) (λ w. nat_le w.ts v.ts ≡ false) x xs place h in
    let behind : is_lt (version_cmp v x) ≡ false = before_of_one_key v x (sym own.0) ∙ (grind arith) in
    ap (λ ys. x ∷ ys) (put_at v xs place own.1 (omega arith) (point_rest (λ w. nat_le w.ts v.ts ≡ true) (λ w. nat_le w.ts v.ts ≡ false) x xs place h))
    ∙ sym (ap (λ b. if b then v ∷ x ∷ xs else x ∷ with_version xs v) behind)

-- where timestamps do not fall the last is the greatest
pub last_is_greatest : (xs : List Version) (v : Version) → IsNonDecreasingBy (λ v. v.ts) xs → slice_get xs (length xs - 1) ≡ Some v → Each (λ w. w.ts ≤ v.ts) xs
last_is_greatest xs v rising is =
    let inside : length xs - 1 < length xs = slice_get_within xs (length xs - 1) v is in
    recursion_from_All (λ w. w.ts ≤ v.ts) xs
    (λ k d low.
    let at : slice_index_or xs (length xs - 1) d ≡ v = get_or_from_slice_get xs (length xs - 1) v d is in
    subst (λ (u : Version). (slice_index_or xs k d).ts ≤ u.ts) at (rising k (length xs - 1) d (omega arith) inside))

-- and a place before which all are below it is inside
pub place_is_inside : (xs : List Version) (v : Version) (place : ℕ) → slice_get xs (length xs - 1) ≡ Some v → place ≤ length xs → IsPartitionPoint (λ w. nat_lt w.ts v.ts ≡ true) (λ w. nat_lt w.ts v.ts ≡ false) xs place → place < length xs
place_is_inside xs v place is low h =
    let inside : length xs - 1 < length xs = slice_get_within xs (length xs - 1) v is in
    let at : slice_index_or xs (length xs - 1) v ≡ v = get_or_from_slice_get xs (length xs - 1) v v is in
    let not-all : length xs ≤ place → ⊥ = λ past.
    let under : nat_lt v.ts v.ts ≡ true = subst (λ (u : Version). nat_lt u.ts v.ts ≡ true) at (h.0 (length xs - 1) v (omega arith) (omega (arith, inside, past))) in
    grind arith in
    omega (arith, low, not-all)

-- and the chain is one still
pub chain_with : (v : Version) (xs : List Version) (place : ℕ) → IsChain v.key xs → place ≤ length xs → IsPartitionPoint (λ w. nat_le w.ts v.ts ≡ true) (λ w. nat_le w.ts v.ts ≡ false) xs place → IsChain v.key (insert xs place v)
chain_with v xs place h low point = record {
  own = subst (Each (λ w. w.key ≡ v.key)) (sym (put_at v xs place h.own low point)) (each_with_version (λ w. w.key ≡ v.key) xs v refl h.own);
  rising =
      IsNonDecreasingBy-insert (λ w. w.ts) xs place v h.rising low
      (λ k d before. let under : nat_le (slice_index_or xs k d).ts v.ts ≡ true = point.0 k d (omega arith) before in grind arith)
      (λ k d behind inside. let over : nat_le (slice_index_or xs k d).ts v.ts ≡ false = point.1 k d behind inside in grind arith);
}

-- no version is a chain
pub no_chain : (key : List ℕ) → IsChain key []
no_chain key = record { own = tt; rising = IsNonDecreasingBy-short (λ w. w.ts) [] (omega arith) }

module _ (from to : ℕ) where
  abbrev inside : Version → Bool
  inside v = nat_lt from v.ts && nat_le v.ts to

  -- A version, unless it lies too high.
  abbrev pub unless_above : Option Version → Option Version
  unless_above None = None
  unless_above (Some v) = if nat_le v.ts to then Some v else None

  none-inside : (low : ℕ) (xs : List Version) → to < low → Each (λ v. low ≤ v.ts) xs → find inside xs ≡ None
  none-inside low [] h a = refl
  none-inside low (x ∷ xs) h a =
      let above : low ≤ x.ts = a.0 in
      let past : nat_le x.ts to ≡ false = grind arith in
      ap (λ b. cond (nat_lt from x.ts && b) (Some x) (find inside xs)) past ∙ by (nat_lt from x.ts) (none-inside low xs h a.1)
    where
      by : (b : Bool) → find inside xs ≡ None → cond (b && false) (Some x) (find inside xs) ≡ None
      by true rest = rest
      by false rest = rest

  -- the first that lies above and not too high stands where the others end that do not lie above, or nowhere
  pub inside_at : (xs : List Version) (place : ℕ) → IsNonDecreasingBy (λ v. v.ts) xs → place ≤ length xs → IsPartitionPoint (λ v. nat_le v.ts from ≡ true) (λ v. nat_le v.ts from ≡ false) xs place
      → unless_above (slice_get xs place) ≡ find inside xs
  inside_at [] zero rising low h = refl
  inside_at [] (suc place) rising low h = absurd (omega arith)
  inside_at (x ∷ xs) zero rising low h =
      let high : nat_le x.ts from ≡ false = point_last (λ v. nat_le v.ts from ≡ true) (λ v. nat_le v.ts from ≡ false) x xs h in
      let above : nat_lt from x.ts ≡ true = grind arith in
      sym (ap (λ b. cond (b && nat_le x.ts to) (Some x) (find inside xs)) above ∙ by (nat_le x.ts to) refl)
    where
      by : (b : Bool) → nat_le x.ts to ≡ b → cond b (Some x) (find inside xs) ≡ cond b (Some x) None
      by true is = refl
      by false is =
          let past : to < x.ts = grind arith in
          none-inside x.ts xs past (recursion_from_All (λ w. x.ts ≤ w.ts) xs (λ k d within. rising-first x xs rising k d within))
  inside_at (x ∷ xs) (suc place) rising low h =
      let under : nat_le x.ts from ≡ true = point_first (λ v. nat_le v.ts from ≡ true) (λ v. nat_le v.ts from ≡ false) x xs place h in
      let not-above : nat_lt from x.ts ≡ false = grind arith in
      inside_at xs place (rising_rest x xs rising) (omega arith) (point_rest (λ v. nat_le v.ts from ≡ true) (λ v. nat_le v.ts from ≡ false) x xs place h)
      ∙ sym (ap (λ b. cond (b && nat_le x.ts to) (Some x) (find inside xs)) not-above)
