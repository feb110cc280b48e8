-- Where an intent's writes rise, the last of them is the one of the greatest sequence.
use Rattle.std.proofs.Common.{◌≡◌, ℕ, ◌-◌, ◌<◌, ◌≤◌, zero, suc, Bool, true, false, max, nat_le, nat_lt, ◌||◌, ◌&&◌, ◌==◌, cond, if◌then◌else◌, List, [], ◌∷◌, ◌++◌, length, take, filter, fold, get_or, Option, None, Some, refl, sym, ap, ◌∙◌, subst, arith}
use Rattle.std.proofs.lemmas.Grind.{common_steps}
use Rattle.std.proofs.lemmas.List.Kept.{IsStrictlySortedBy-filter}
use Rattle.std.proofs.lemmas.List.{get_or-map, length-map}
use Rattle.std.proofs.lemmas.Map.{keys-set_value}
use Rattle.std.proofs.lemmas.Map.Keys.{below_from_sorted, non_decreasing_from_sorted, sorted_tail}
use Rattle.std.proofs.lemmas.Map.Views.{All-values-set_value, IfSome-lookup_from_All}
use Rattle.std.specs.Cmp.Lexicographic.{slice_cmp}
use Rattle.std.specs.declared.cmp.Ordering.TheVariants.{Less}
use Rattle.std.specs.List.{All, AllByRecursion as Each, last_or, slice_get}
use Rattle.std.specs.List.Sorted.{IsNonDecreasingBy, IsPartitionPoint, IsStrictlySortedBy}
use Rattle.std.specs.Map.{keys_of, lookup, set_value, values_of}
use Rattle.std.specs.Option.{IfSome, UnwrapsOrElse, option_map, option_map_or}
use Rattle.std.specs.Ordering.{nat_cmp}
use Rattle.pc_intent.specs.Coming.{comes_to, intent_then}
use Rattle.pc_intent.specs.Rising.{IsIntentTable, WritesRise}
use Rattle.pc_base.specs.Transaction.{same_txn}
use Rattle.pc_proto.specs.declared.meta.TxnMeta.{TxnMeta}
use Rattle.pc_proto.specs.declared.record.Intent.{Intent}
use Rattle.pc_proto.specs.Intents.{fresh, grown, last_seq, last_value, later_write, value_by}
use Rattle.pc_world.specs.Evaluation.Put.{Lands, Meets, Stands, is_overtaken_by, laid, put_change}

-- A write's sequence and what it says.
abbrev Write : Type 0
Write = ℕ × Option (List ℕ)

second-above : (w v : Write) (vs : List Write) → IsStrictlySortedBy nat_cmp (keys_of (w ∷ v ∷ vs)) → w.0 < v.0
second-above w v vs rise = below_from_sorted (keys_of (w ∷ v ∷ vs)) 0 1 0 rise (omega arith) (omega arith)

later : (w v : Write) → w.0 < v.0 → later_write (Some w) v ≡ Some v
later w v above = grind (arith, common_steps)

latest-after : (w : Write) (ws : List Write) → IsStrictlySortedBy nat_cmp (keys_of (w ∷ ws)) → fold later_write (Some w) ws ≡ last_or (Some w) ws
latest-after w [] rise = refl
latest-after w (v ∷ vs) rise =
    ap (λ best. fold later_write best vs) (later w v (second-above w v vs rise)) ∙ latest-after v vs (sorted_tail nat_cmp w.0 (keys_of (v ∷ vs)) rise)

-- the write of the greatest sequence is the last one
latest : (ws : List Write) → IsStrictlySortedBy nat_cmp (keys_of ws) → fold later_write None ws ≡ last_or None ws
latest [] rise = refl
latest (w ∷ ws) rise = latest-after w ws rise

most-after : (w : Write) (ws : List Write) → IsStrictlySortedBy nat_cmp (keys_of (w ∷ ws)) → fold (λ most v. max most v.0) w.0 ws ≡ option_map_or (λ v. v.0) (last_or (Some w) ws) 0
most-after w [] rise = refl
most-after w (v ∷ vs) rise =
    let above : w.0 < v.0 = second-above w v vs rise in
    let is : max w.0 v.0 ≡ v.0 = omega (arith, above) in
    ap (λ most. fold (λ most v. max most v.0) most vs) is ∙ most-after v vs (sorted_tail nat_cmp w.0 (keys_of (v ∷ vs)) rise)

most : (ws : List Write) → IsStrictlySortedBy nat_cmp (keys_of ws) → fold (λ most v. max most v.0) 0 ws ≡ option_map_or (λ v. v.0) (last_or None ws) 0
most [] rise = refl
most (w ∷ ws) rise = let is : max 0 w.0 ≡ w.0 = omega arith in ap (λ most. fold (λ most v. max most v.0) most ws) is ∙ most-after w ws rise

pub last_seq_is : (i : Intent) → WritesRise i → last_seq i ≡ option_map_or (λ w. w.0) (last_or None i.history) 0
last_seq_is i rise = most i.history rise

pub last_value_is : (i : Intent) → WritesRise i → last_value i ≡ option_map (λ w. w.1) (last_or None i.history)
last_value_is i rise = ap (option_map (λ w. w.1)) (latest i.history rise)

got-last : {X : Type 0} (x : X) (xs : List X) → slice_get (x ∷ xs) (length xs) ≡ last_or (Some x) xs
got-last x [] = refl
got-last x (y ∷ ys) = got-last y ys

pub last_is_got : {X : Type 0} (xs : List X) → slice_get xs (length xs - 1) ≡ last_or None xs
last_is_got [] = refl
last_is_got (x ∷ xs) = let before : length (x ∷ xs) - 1 ≡ length xs = omega arith in ap (slice_get (x ∷ xs)) before ∙ got-last x xs

module _ {X : Type 0} (p : X → Bool) where
  none-kept : (xs : List X) → ((k : ℕ) (d : X) → k < length xs → p (get_or xs k d) ≡ false) → filter p xs ≡ []
  none-kept [] fails = refl
  none-kept (x ∷ xs) fails =
      ap (λ b. cond b (x ∷ filter p xs) (filter p xs)) (fails 0 x (omega arith)) ∙ none-kept xs (λ k d h. fails (suc k) d (omega (arith, h)))

  -- what a test keeps is what lies before the place where it begins to fail
  pub kept_is_front : (xs : List X) (i : ℕ) → ((k : ℕ) (d : X) → k < i → p (get_or xs k d) ≡ true) → ((k : ℕ) (d : X) → i ≤ k → k < length xs → p (get_or xs k d) ≡ false) → filter p xs ≡ take i xs
  kept_is_front [] zero holds fails = refl
  kept_is_front [] (suc i) holds fails = refl
  kept_is_front (x ∷ xs) zero holds fails = none-kept (x ∷ xs) (λ k d h. fails k d (omega arith) h)
  kept_is_front (x ∷ xs) (suc i) holds fails =
      ap (λ b. cond b (x ∷ filter p xs) (filter p xs)) (holds 0 x (omega arith))
      ∙ ap (λ ys. x ∷ ys) (kept_is_front xs i (λ k d h. holds (suc k) d (omega (arith, h))) (λ k d l h. fails (suc k) d (omega (arith, l)) (omega (arith, h))))

sequences-kept : (seq : ℕ) (ws : List Write) → keys_of (filter (λ w. nat_le w.0 seq) ws) ≡ filter (λ n. nat_le n seq) (keys_of ws)
sequences-kept seq [] = refl
sequences-kept seq (w ∷ ws) = by (nat_le w.0 seq) (sequences-kept seq ws)
  where
    by : (b : Bool) → keys_of (filter (λ w. nat_le w.0 seq) ws) ≡ filter (λ n. nat_le n seq) (keys_of ws)
        → keys_of (cond b (w ∷ filter (λ w. nat_le w.0 seq) ws) (filter (λ w. nat_le w.0 seq) ws)) ≡ cond b (w.0 ∷ filter (λ n. nat_le n seq) (keys_of ws)) (filter (λ n. nat_le n seq) (keys_of ws))
    by true rest = ap (λ ns. w.0 ∷ ns) rest
    by false rest = rest

no-fall : (ws : List Write) → IsStrictlySortedBy nat_cmp (keys_of ws) → IsNonDecreasingBy (λ w. w.0) ws
no-fall ws rise i j d l h =
    let inside : j < length (keys_of ws) = omega (arith, h, length-map ws (λ w. w.0)) in
    let before : i < length ws = omega (arith, l, h) in
    let le = non_decreasing_from_sorted (keys_of ws) rise i j d.0 l inside in
    subst (λ n. n ≤ (get_or ws j d).0) (get_or-map (λ w. w.0) ws i d d.0 before) (subst (λ n. get_or (keys_of ws) i d.0 ≤ n) (get_or-map (λ w. w.0) ws j d d.0 h) le)

pub value_by_is : (seq : ℕ) (i : Intent) (ws : List Write) (count : ℕ) → ws ≡ i.history → WritesRise i
    → (IsNonDecreasingBy (λ w. w.0) ws → IsPartitionPoint (λ w. nat_le w.0 seq ≡ true) (λ w. nat_le w.0 seq ≡ false) ws count)
    → value_by seq i ≡ option_map (λ w. w.1) (last_or None (take count ws))
value_by_is seq i ws count same rise found =
    let all : IsStrictlySortedBy nat_cmp (keys_of ws) = subst (λ ws. IsStrictlySortedBy nat_cmp (keys_of ws)) (sym same) rise in
    let point = found (no-fall ws all) in
    let kept : filter (λ w. nat_le w.0 seq) ws ≡ take count ws = kept_is_front (λ w. nat_le w.0 seq) ws count (λ k d h. point.0 k d (omega arith) h) point.1 in
    let rises : IsStrictlySortedBy nat_cmp (keys_of (filter (λ w. nat_le w.0 seq) ws)) =
    subst (IsStrictlySortedBy nat_cmp) (sym (sequences-kept seq ws)) (IsStrictlySortedBy-filter nat_cmp (λ n. nat_le n seq) (keys_of ws) all) in
    ap (λ ws. option_map (λ w. w.1) (fold later_write None (filter (λ w. nat_le w.0 seq) ws))) (sym same)
    ∙ ap (option_map (λ w. w.1)) (latest (filter (λ w. nat_le w.0 seq) ws) rises ∙ ap (last_or None) kept)

less : (m n : ℕ) → m < n → nat_cmp m n ≡ Less
less m n below = grind (arith, common_steps)

start-below : (start : ℕ) (ws : List Write) (seq : ℕ) → fold (λ most w. max most w.0) start ws < seq → start < seq
start-below start [] seq below = below
start-below start (w ∷ ws) seq below = let rest : max start w.0 < seq = start-below (max start w.0) ws seq below in omega (arith, rest)

all-below : (m : ℕ) (ws : List Write) (w : Write) → Each (λ n. nat_cmp m n ≡ Less) (keys_of ws) → nat_cmp m w.0 ≡ Less → Each (λ n. nat_cmp m n ≡ Less) (keys_of (ws ++ w ∷ []))
all-below m [] w all last = (last, tt)
all-below m (v ∷ vs) w all last = (all.0, all-below m vs w all.1 last)

pub one_rises : (w : Write) → IsStrictlySortedBy nat_cmp (keys_of (w ∷ []))
unfolding IsStrictlySortedBy
one_rises w = (tt, tt)

one-more : (start : ℕ) (ws : List Write) (w : Write) → IsStrictlySortedBy nat_cmp (keys_of ws) → fold (λ most w. max most w.0) start ws < w.0 → IsStrictlySortedBy nat_cmp (keys_of (ws ++ w ∷ []))
unfolding IsStrictlySortedBy
one-more start [] w rise below = (tt, tt)
one-more start (v ∷ vs) w rise below =
    let first : max start v.0 < w.0 = start-below (max start v.0) vs w.0 below in
    (all-below v.0 vs w rise.0 (less v.0 w.0 (omega (arith, first))), one-more (max start v.0) vs w rise.1 below)

not-overtaken : (epoch at seq last : ℕ) → (at == epoch) ≡ true → (nat_lt epoch at || at == epoch && nat_le seq last) ≡ false → last < seq
not-overtaken epoch at seq last same not = grind (arith, common_steps)

module _ (meta : TxnMeta) (seq ts : ℕ) (value : Option (List ℕ)) (i : Intent) (rise : WritesRise i) where
  laid-rises : (at : ℕ) → is_overtaken_by meta seq i ≡ false → WritesRise (laid meta seq at value (Some i))
  laid-rises at not = by (i.meta.epoch == meta.epoch) (λ same. one-more 0 i.history (seq, value) rise (not-overtaken meta.epoch i.meta.epoch seq (last_seq i) same not))
    where
      by : (b : Bool) → (b ≡ true → WritesRise (grown seq at value i)) → WritesRise (if b then grown seq at value i else fresh meta seq at value)
      by true more = more refl
      by false more = one_rises (seq, value)

  -- a put leaves writes that rise
  pub put_rises : WritesRise (intent_then (put_change (comes_to meta seq ts value (Some i))) i)
  put_rises = by (same_txn i.meta.id meta.id) (is_overtaken_by meta seq i) (laid-rises (max ts i.ts))
    where
      by : (same past : Bool) → (past ≡ false → WritesRise (laid meta seq (max ts i.ts) value (Some i)))
          → WritesRise (intent_then (put_change (if same then (if past then Stands i.ts else Lands (laid meta seq (max ts i.ts) value (Some i))) else Meets i)) i)
      by true true new = rise
      by true false new = new refl
      by false past new = rise

pub in_table : (es fs : List (List ℕ × Intent)) → fs ≡ es → All WritesRise (values_of es) → All WritesRise (values_of fs)
in_table es fs same all = subst (λ es. All WritesRise (values_of es)) (sym same) all

-- The intents of a table, by a search and after a change.
module _ (test : List ℕ → Bool) (es : List (List ℕ × Intent)) where
  pub found_rises : (i : Intent) → All WritesRise (values_of es) → lookup test es ≡ Some i → WritesRise i
  found_rises i all found = subst (λ o. IfSome o WritesRise) found (IfSome-lookup_from_All WritesRise test es all)

  pub there_or_first_rises : (meta : TxnMeta) (seq ts : ℕ) (value : Option (List ℕ)) (i : Intent) → All WritesRise (values_of es) → UnwrapsOrElse (lookup test es) (λ (j : Intent). j ≡ fresh meta seq ts value) i → WritesRise i
  there_or_first_rises meta seq ts value i all = by (lookup test es) (IfSome-lookup_from_All WritesRise test es all)
    where
      by : (o : Option Intent) → IfSome o WritesRise → UnwrapsOrElse o (λ (j : Intent). j ≡ fresh meta seq ts value) i → WritesRise i
      by None rise is = subst WritesRise (sym is) (one_rises (seq, value))
      by (Some j) rise is = subst WritesRise (sym is) rise

  pub table_after_set : (new : Intent) → IsIntentTable es → WritesRise new → IsIntentTable (set_value test es new)
  table_after_set new order rise = record {
    keys = subst (IsStrictlySortedBy (slice_cmp nat_cmp)) (sym (keys-set_value test es new)) order.keys;
    writes = All-values-set_value test WritesRise es new order.writes rise;
  }
