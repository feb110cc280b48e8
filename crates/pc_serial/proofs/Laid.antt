-- What operations lay at a key, each value under its sequence: the last of it is what was written there last, and it is what an
-- intent that has it all says.
use Rattle.std.proofs.Common.{◌≡◌, ℕ, ◌<◌, ◌≤◌, ◌==◌, max, nat_le, nat_lt, Bool, true, false, cond, if◌then◌else◌, inl, inr, List, [], ◌∷◌, ◌++◌, append-nil, filter, fold, map, Option, None, Some, IfSome, Contains, option_and_then, option_map, refl, sym, ap, subst, ◌∙◌, arith}
use Rattle.std.proofs.lemmas.Bool.{eqb-true}
use Rattle.std.proofs.lemmas.List.Sums.{fold-append}
use Rattle.std.specs.List.{AllByRecursion as Each}
use Rattle.std.specs.Prelude.{⊤}
use Rattle.pc_base.specs.declared.transaction.TxnId.{TxnId}
use Rattle.pc_base.specs.Span.{same_key}
use Rattle.pc_implicit.proofs.SessionCommits.{written as write_of}
use Rattle.pc_implicit.proofs.SessionReads.{last_seq_done, seq_of}
use Rattle.pc_implicit.proofs.Writings.{RiseFrom, is_a_write}
use Rattle.pc_implicit.specs.Writes.{writes_on}
use Rattle.pc_lists.proofs.Each.{each-append, each-choose, each-weaker}
use Rattle.pc_lists.proofs.Lists.{contains_nil}
use Rattle.pc_lists.proofs.Same.{same_key-is, same_key-self}
use Rattle.pc_proto.specs.declared.record.Intent.{Intent}
use Rattle.pc_proto.specs.Intents.{kept_if, last_seq, later_write, own_at, value_by}
use Rattle.pc_serial.proofs.Written.{LastWrite, LeavesKey, last-write}
use Rattle.pc_world.specs.Evaluation.Get.{own_value}
use Rattle.pc_world.specs.Known.Writes.{Write as WriteMade}
use Rattle.pc_world.specs.Operations.{Operation, Read, ReadAll, Write}
use Rattle.pc_world.specs.RangeState.{RangeState}

-- A value under its sequence.
abbrev pub Laid : Type 0
Laid = ℕ × Option (List ℕ)

-- What the operations lay at the key.
abbrev pub laid : List ℕ → List Operation → List Laid
laid key [] = []
laid key (Write own seq value ∷ os) = if same_key own key then (seq, value) ∷ laid key os else laid key os
laid key (Read own value ∷ os) = laid key os
laid key (ReadAll span rows ∷ os) = laid key os

module _ (key : List ℕ) where
  pub laid-append : (os ps : List Operation) → laid key (os ++ ps) ≡ laid key os ++ laid key ps
  laid-append [] ps = refl
  laid-append (Write own seq value ∷ os) ps = ap (λ xs. if same_key own key then (seq, value) ∷ xs else xs) (laid-append os ps) ∙ by (same_key own key)
    where
      by : (b : Bool) → (if b then (seq, value) ∷ (laid key os ++ laid key ps) else (laid key os ++ laid key ps)) ≡ (if b then (seq, value) ∷ laid key os else laid key os) ++ laid key ps
      by true = refl
      by false = refl
  laid-append (Read own value ∷ os) ps = laid-append os ps
  laid-append (ReadAll span rows ∷ os) ps = laid-append os ps

  -- operations that leave the key lay nothing there
  pub laid-left : (os : List Operation) → Each (LeavesKey key) os → laid key os ≡ []
  laid-left [] a = refl
  laid-left (Write own seq value ∷ os) a = by (laid-left os a.1) (same_key own key) refl
    where
      by : laid key os ≡ [] → (b : Bool) → same_key own key ≡ b → (if same_key own key then (seq, value) ∷ laid key os else laid key os) ≡ []
      by rest true is = absurd (a.0 (same_key-is own key is))
      by rest false is = ap (λ b. if b then (seq, value) ∷ laid key os else laid key os) is ∙ rest
  laid-left (Read own value ∷ os) a = laid-left os a.1
  laid-left (ReadAll span rows ∷ os) a = laid-left os a.1

  -- a write of the key lays its value
  pub laid-write : (seq : ℕ) (value : Option (List ℕ)) (os : List Operation) → laid key (Write key seq value ∷ os) ≡ (seq, value) ∷ laid key os
  laid-write seq value os = ap (λ b. if b then (seq, value) ∷ laid key os else laid key os) (same_key-self key)

  -- only writes lay
  pub laid-writes : (os : List Operation) → laid key (filter is_a_write os) ≡ laid key os
  laid-writes [] = refl
  laid-writes (Write own seq value ∷ os) = ap (λ xs. if same_key own key then (seq, value) ∷ xs else xs) (laid-writes os)
  laid-writes (Read own value ∷ os) = laid-writes os
  laid-writes (ReadAll span rows ∷ os) = laid-writes os

  -- what a session knows that was written lays the same
  pub laid-known : (ws : List WriteMade) → laid key (map write_of ws) ≡ writes_on key ws
  laid-known [] = refl
  laid-known (w ∷ ws) = ap (λ xs. if same_key w.key key then (w.seq, w.value) ∷ xs else xs) (laid-known ws) ∙ by (same_key w.key key)
    where
      by : (b : Bool) → (if b then (w.seq, w.value) ∷ writes_on key ws else writes_on key ws) ≡ map (λ (v : WriteMade). (v.seq, v.value)) (cond b (w ∷ filter (λ v. same_key v.key key) ws) (filter (λ v. same_key v.key key) ws))
      by true = refl
      by false = refl

  -- the last write of the key is laid last
  pub laid-last : (os : List Operation) (last : LastWrite key os) → laid key os ≡ laid key last.front ++ (last.seq, last.value) ∷ []
  laid-last os last =
      ap (laid key) last.whole
      ∙ laid-append last.front (Write key last.seq last.value ∷ last.back)
      ∙ ap (λ xs. laid key last.front ++ xs) (laid-write last.seq last.value last.back ∙ ap (λ xs. (last.seq, last.value) ∷ xs) (laid-left last.back last.leaves))

module _ {X : Type 0} where
  nothing-before : (front : List X) (x : X) → [] ≡ front ++ x ∷ [] → ⊥
  nothing-before [] x h = absurd cc
  nothing-before (y ∷ front) x h = absurd cc

  -- the last element is one
  pub same-last : (xs ys : List X) (x y : X) → xs ++ x ∷ [] ≡ ys ++ y ∷ [] → x ≡ y
  same-last [] [] x y h = cc h
  same-last [] (z ∷ zs) x y h = absurd (nothing-before zs y (cc h))
  same-last (z ∷ zs) [] x y h = absurd (nothing-before zs x (sym (cc h)))
  same-last (z ∷ zs) (w ∷ ws) x y h = same-last zs ws x y (cc h)

  -- where a list ends in an element, each part of it that ends it does, but for the empty one
  pub tail-last : (xs : List X) (y : X) (ys front : List X) (last : X) → xs ++ y ∷ ys ≡ front ++ last ∷ [] → (rest : List X) × (y ∷ ys ≡ rest ++ last ∷ [])
  tail-last [] y ys front last h = (front, h)
  tail-last (x ∷ xs) y ys [] last h = absurd (nothing-none xs (cc h))
    where
      nothing-none : (xs : List X) → xs ++ y ∷ ys ≡ [] → ⊥
      nothing-none [] h = absurd cc
      nothing-none (z ∷ zs) h = absurd cc
  tail-last (x ∷ xs) y ys (z ∷ front) last h = tail-last xs y ys front last (cc h)

-- the last that is laid at the key is the value of the last write of it
pub last-laid : (key : List ℕ) (os : List Operation) (front : List Laid) (seq : ℕ) (value : Option (List ℕ)) → laid key os ≡ front ++ (seq, value) ∷ [] → (last : LastWrite key os) × (last.value ≡ value)
last-laid key os front seq value h =
    elim (last-write key os) [
      | inl last ↦ (last, ap (λ (w : Laid). w.1) (same-last (laid key last.front) front (last.seq, last.value) (seq, value) (sym (laid-last key os last) ∙ h)))
      | inr leaves ↦ absurd (nothing-before front (seq, value) (sym (laid-left key os leaves) ∙ h))
    ]

-- ---- sequences

-- The sequences rise strictly, the first from above this one.
abbrev pub RisesFrom : ℕ → List Laid → Type 0
RisesFrom n [] = ⊤
RisesFrom n (w ∷ ws) = (n < w.0) × RisesFrom w.0 ws

rises-lower : (m n : ℕ) (ws : List Laid) → m ≤ n → RisesFrom n ws → RisesFrom m ws
rises-lower m n [] low h = tt
rises-lower m n (w ∷ ws) low h = let first : n < w.0 = h.0 in (omega (arith, low, first), h.1)

-- where the sequences of the operations rise, so do those of what they lay at a key
pub laid-rises : (key : List ℕ) (n : ℕ) (os : List Operation) → RiseFrom n os → RisesFrom n (laid key os)
laid-rises key n [] h = tt
laid-rises key n (Write own seq value ∷ os) h = by (laid-rises key seq os h.1) (same_key own key)
  where
    by : RisesFrom seq (laid key os) → (b : Bool) → RisesFrom n (if b then (seq, value) ∷ laid key os else laid key os)
    by rest true = (h.0, rest)
    by rest false = let first : n < seq = h.0 in rises-lower n seq (laid key os) (omega (arith, first)) rest
laid-rises key n (Read own value ∷ os) h = let none : n < 0 = h.0 in absurd (omega (arith, none))
laid-rises key n (ReadAll span rows ∷ os) h = let none : n < 0 = h.0 in absurd (omega (arith, none))

below-next : (n m : ℕ) (ws : List Laid) (x : Laid) (xs : List Laid) → RisesFrom n (ws ++ x ∷ xs) → m ≤ n → fold (λ (most : ℕ) (w : Laid). max most w.0) m ws < x.0
below-next n m [] x xs h low = let first : n < x.0 = h.0 in omega (arith, first, low)
below-next n m (w ∷ ws) x xs h low = let first : n < w.0 = h.0 in below-next w.0 (max m w.0) ws x xs h.1 (omega (arith, first, low))

rises-back : (n : ℕ) (ws xs : List Laid) → RisesFrom n (ws ++ xs) → (m : ℕ) × RisesFrom m xs
rises-back n [] xs h = (n, h)
rises-back n (w ∷ ws) xs h = rises-back w.0 ws xs h.1

pub rises-front : (n : ℕ) (ws xs : List Laid) → RisesFrom n (ws ++ xs) → RisesFrom n ws
rises-front n [] xs h = tt
rises-front n (w ∷ ws) xs h = (h.0, rises-front w.0 ws xs h.1)

-- each before the last has a lesser sequence
below-last : (n : ℕ) (front : List Laid) (last : Laid) → RisesFrom n (front ++ last ∷ []) → (n < last.0) × Each (λ w. w.0 ≤ last.0) front
below-last n [] last h = (h.0, tt)
below-last n (w ∷ front) last h =
    let rest = below-last w.0 front last h.1 in
    let first : n < w.0 = h.0 in
    let less : w.0 < last.0 = rest.0 in
    (omega (arith, first, less), (omega (arith, less), rest.1))

-- what reaches the last sequence is the whole
reaches-whole : (history rest front : List Laid) (seq : ℕ) (value : Option (List ℕ)) → RisesFrom 0 (history ++ rest) → history ++ rest ≡ front ++ (seq, value) ∷ [] → seq ≤ fold (λ (most : ℕ) (w : Laid). max most w.0) 0 history → history ≡ front ++ (seq, value) ∷ []
reaches-whole history [] front seq value rises whole has = sym (append-nil history) ∙ whole
reaches-whole history (x ∷ xs) front seq value rises whole has =
    let below : fold (λ (most : ℕ) (w : Laid). max most w.0) 0 history < x.0 = below-next 0 0 history x xs rises (omega arith) in
    let ends = tail-last history x xs front (seq, value) whole in
    let on = rises-back 0 history (x ∷ xs) rises in
    let high : x.0 ≤ seq = first-low on.0 (x ∷ xs) x xs refl ends.0 ends.1 on.1 in
    absurd (omega (arith, below, high, has))
  where
    first-low : (n : ℕ) (ws : List Laid) (y : Laid) (ys : List Laid) → ws ≡ y ∷ ys → (f : List Laid) → y ∷ ys ≡ f ++ (seq, value) ∷ [] → RisesFrom n ws → y.0 ≤ seq
    first-low n ws y ys is [] e r = let same : y ≡ (seq, value) = cc e in let equal : y.0 ≡ seq = ap (λ (w : Laid). w.0) same in omega (arith, equal)
    first-low n ws y ys is (z ∷ f) e r =
        let same : y ≡ z = cc e in
        let low = below-last n (z ∷ f) (seq, value) (subst (RisesFrom n) (is ∙ e) r) in
        let under : z.0 ≤ seq = low.1.0 in
        let equal : y.0 ≡ z.0 = ap (λ (w : Laid). w.0) same in
        omega (arith, under, equal)

-- ---- what an intent says

later-kept : (last : Laid) (best : Option Laid) (w : Laid) → IfSome best (λ b. b.0 ≤ last.0) → w.0 ≤ last.0 → IfSome (later_write best w) (λ b. b.0 ≤ last.0)
later-kept last None w h low = low
later-kept last (Some b) w h low = by (nat_lt w.0 b.0)
  where
    by : (c : Bool) → IfSome (if c then Some b else Some w) (λ x. x.0 ≤ last.0)
    by true = h
    by false = low

chosen-over : (best : Option Laid) (last : Laid) → IfSome best (λ b. b.0 ≤ last.0) → later_write best last ≡ Some last
chosen-over None last h = refl
chosen-over (Some b) last h = let low : b.0 ≤ last.0 = h in grind (arith, low)

all-kept : (seq : ℕ) (ws : List Laid) → Each (λ w. w.0 ≤ seq) ws → filter (λ w. nat_le w.0 seq) ws ≡ ws
all-kept seq [] a = refl
all-kept seq (w ∷ ws) a =
    let low : w.0 ≤ seq = a.0 in
    let passes : nat_le w.0 seq ≡ true = grind (arith, low) in
    ap (λ b. cond b (w ∷ filter (λ w. nat_le w.0 seq) ws) (filter (λ w. nat_le w.0 seq) ws)) passes ∙ ap (λ xs. w ∷ xs) (all-kept seq ws a.1)

-- an intent that ends in a write not above the sequence says that
says-last : (seq : ℕ) (i : Intent) (front : List Laid) (last : Laid) → i.history ≡ front ++ last ∷ [] → RisesFrom 0 (front ++ last ∷ []) → last.0 ≤ seq → value_by seq i ≡ Some last.1
says-last seq i front last is rises low =
    let below = (below-last 0 front last rises).1 in
    let all : Each (λ (w : Laid). w.0 ≤ seq) (front ++ last ∷ []) =
    each-append (λ (w : Laid). w.0 ≤ seq) front (last ∷ []) (each-weaker (λ (w : Laid). w.0 ≤ last.0) (λ w. w.0 ≤ seq) (λ w under. omega (arith, under, low)) front below) (low, tt) in
    let best : IfSome (fold later_write None front) (λ b. b.0 ≤ last.0) = each-choose (λ (b : Laid). b.0 ≤ last.0) later_write (later-kept last) None front tt below in
    ap (λ ws. option_map (λ (w : Laid). w.1) (fold later_write None (filter (λ w. nat_le w.0 seq) ws))) is
    ∙ ap (λ ws. option_map (λ (w : Laid). w.1) (fold later_write None ws)) (all-kept seq (front ++ last ∷ []) all)
    ∙ ap (option_map (λ (w : Laid). w.1)) (fold-append later_write None front (last ∷ []) ∙ chosen-over (fold later_write None front) last best)

-- The transaction's own intent, if there is one, is of another epoch, or it has the first writes of what was done at the key.
abbrev pub IsPartLaid : ℕ → List ℕ → List Operation → Intent → Type 0
IsPartLaid epoch key done i = i.meta.epoch ≡ epoch → (rest : List Laid) × (laid key done ≡ i.history ++ rest) × ((w : Laid) × Contains i.history w)

fold-low : (n : ℕ) (os : List Operation) → n ≤ fold (λ (most : ℕ) (o : Operation). max most (seq_of o)) n os
fold-low n [] = omega arith
fold-low n (o ∷ os) = let on = fold-low (max n (seq_of o)) os in omega (arith, on)

-- the last write's sequence is not above the greatest
seq-low : (key : List ℕ) (done : List Operation) (last : LastWrite key done) → last.seq ≤ last_seq_done done
seq-low key done last =
    let most : List Operation → ℕ → ℕ = λ os n. fold (λ (most : ℕ) (o : Operation). max most (seq_of o)) n os in
    let parts : last_seq_done done ≡ most last.back (max (most last.front 0) last.seq) =
    ap last_seq_done last.whole ∙ fold-append (λ (most : ℕ) (o : Operation). max most (seq_of o)) 0 last.front (Write key last.seq last.value ∷ last.back) in
    let on : max (most last.front 0) last.seq ≤ most last.back (max (most last.front 0) last.seq) = fold-low (max (most last.front 0) last.seq) last.back in
    omega (arith, parts, on)

none-first : (ws rest : List Laid) (w : Laid) → [] ≡ ws ++ rest → Contains ws w → ⊥
none-first [] rest w h c = contains_nil w c
none-first (x ∷ ws) rest w h c = absurd cc

-- an intent at a key that was not written is of another epoch
other-epoch : (epoch : ℕ) (key : List ℕ) (done : List Operation) (i : Intent) → IsPartLaid epoch key done i → laid key done ≡ [] → (i.meta.epoch == epoch) ≡ false
other-epoch epoch key done i part none = by (i.meta.epoch == epoch) refl
  where
    by : (b : Bool) → (i.meta.epoch == epoch) ≡ b → (i.meta.epoch == epoch) ≡ false
    by false is = is
    by true is = let p = part (eqb-true i.meta.epoch epoch is) in absurd (none-first i.history p.0 p.2.0 (sym none ∙ p.1) p.2.1)

module _ (id : TxnId) (epoch seq : ℕ) (key : List ℕ) (done : List Operation) (s : RangeState) where
  -- where the key was written, and the intent has that, the read finds the last that was written
  pub own-found : (last : LastWrite key done) (i : Intent) → own_at id key s.intents ≡ Some i → i.meta.epoch ≡ epoch → IsPartLaid epoch key done i → last.seq ≤ last_seq i → seq ≡ last_seq_done done → RisesFrom 0 (laid key done)
      → own_value id epoch seq key s ≡ Some last.value
  own-found last i own same part has at rises =
      let p = part same in
      let ends : laid key done ≡ laid key last.front ++ (last.seq, last.value) ∷ [] = laid-last key done last in
      let whole : i.history ≡ laid key last.front ++ (last.seq, last.value) ∷ [] =
      reaches-whole i.history p.0 (laid key last.front) last.seq last.value (subst (RisesFrom 0) p.1 rises) (sym p.1 ∙ ends) has in
      let under : last.seq ≤ last_seq_done done = seq-low key done last in
      let low : last.seq ≤ seq = omega (arith, under, at) in
      let epoch_is : (i.meta.epoch == epoch) ≡ true = grind (arith, same) in
      ap (λ o. option_and_then (value_by seq) (kept_if (λ j. j.meta.epoch == epoch) o)) own
      ∙ ap (λ b. option_and_then (value_by seq) (if b then Some i else None)) epoch_is
      ∙ says-last seq i (laid key last.front) (last.seq, last.value) whole (subst (RisesFrom 0) ends rises) low

  -- where it was not written, the read finds nothing of its own
  pub own-none : ((i : Intent) → own_at id key s.intents ≡ Some i → IsPartLaid epoch key done i) → laid key done ≡ [] → own_value id epoch seq key s ≡ None
  own-none part none = by (own_at id key s.intents) refl
    where
      by : (o : Option Intent) → own_at id key s.intents ≡ o → option_and_then (value_by seq) (kept_if (λ j. j.meta.epoch == epoch) (own_at id key s.intents)) ≡ None
      by None is = ap (λ o. option_and_then (value_by seq) (kept_if (λ j. j.meta.epoch == epoch) o)) is
      by (Some i) is =
          ap (λ o. option_and_then (value_by seq) (kept_if (λ j. j.meta.epoch == epoch) o)) is
          ∙ ap (λ c. option_and_then (value_by seq) (if c then Some i else None)) (other-epoch epoch key done i (part i is) none)
