-- Lists of writes: what stays of them, in which order they stand, and what an intent has of them.
use Rattle.std.proofs.Common.{◌≡◌, ℕ, ◌<◌, ◌≤◌, max, nat_lt, Bool, true, false, cond, ◌⊎◌, inl, inr, List, [], ◌∷◌, ◌++◌, filter, fold, map, Option, None, Some, Contains, refl, sym, ap, subst, ◌∙◌, arith}
use Rattle.std.proofs.lemmas.Grind.{fold-append}
use Rattle.std.proofs.lemmas.List.{map-append}
use Rattle.std.proofs.lemmas.List.Elements.{Contains-push_cases, filter-append}
use Rattle.std.specs.List.{AllByRecursion as Each, list_any}
use Rattle.std.specs.Option.{option_map}
use Rattle.std.specs.Prelude.{⊤}
use Rattle.pc_base.specs.Span.{same_key}
use Rattle.pc_implicit.specs.Writes.{writes_on}
use Rattle.pc_lists.proofs.Each.{each-back}
use Rattle.pc_lists.proofs.Lists.{contains_cons, contains_head, contains_nil, contains_tail}
use Rattle.pc_lists.proofs.Same.{same_key-equal, same_key-is}
use Rattle.pc_proto.specs.Intents.{later_write}
use Rattle.pc_world.specs.Known.Writes.{Write, is_proved, last_seq_of}

-- A value, or a deletion, under its sequence.
abbrev pub Laid : Type 0
Laid = ℕ × Option (List ℕ)

-- What a write lays.
abbrev as-laid : Write → Laid
as-laid w = (w.seq, w.value)

-- ---- one write, as it was and as it is

-- The second is the first with at least its proofs, and each other proof is so.
pub record IsAlike (New : Write → ℕ → Type 0) (w x : Write) : Type 0 where
  pub key : x.key ≡ w.key
  pub seq : x.seq ≡ w.seq
  pub value : x.value ≡ w.value
  pub kept : (p : ℕ) → Contains w.proofs p → Contains x.proofs p
  pub new : (p : ℕ) → Contains x.proofs p → Contains w.proofs p ⊎ New w p

-- The lists have the same writes.
abbrev pub AreAlike : (Write → ℕ → Type 0) → List Write → List Write → Type 0
AreAlike New [] [] = ⊤
AreAlike New [] (x ∷ xs) = ⊥
AreAlike New (w ∷ ws) [] = ⊥
AreAlike New (w ∷ ws) (x ∷ xs) = IsAlike New w x × AreAlike New ws xs

any-proof : (ps : List ℕ) → list_any (λ ts. true) ps ≡ true → (p : ℕ) × Contains ps p
any-proof [] h = absurd cc
any-proof (p ∷ ps) h = (p, contains_head p ps)

some-proof : (ps : List ℕ) (p : ℕ) → Contains ps p → list_any (λ ts. true) ps ≡ true
some-proof [] p there = absurd (contains_nil p there)
some-proof (q ∷ ps) p there = refl

-- a write that is proved has a proof
pub proof_of : (w : Write) → is_proved w ≡ true → (p : ℕ) × Contains w.proofs p
proof_of w h = any-proof w.proofs h

-- one that has a proof is proved
pub proved_by : (w : Write) (p : ℕ) → Contains w.proofs p → is_proved w ≡ true
proved_by w p there = some-proof w.proofs p there

module _ (New : Write → ℕ → Type 0) where
  pub alike-itself : (w : Write) → IsAlike New w w
  alike-itself w = record { key = refl; seq = refl; value = refl; kept = λ p there. there; new = λ p there. inl there }

  pub alike_map : (f : Write → Write) → ((w : Write) → IsAlike New w (f w)) → (ws : List Write) → AreAlike New ws (map f ws)
  alike_map f is [] = tt
  alike_map f is (w ∷ ws) = (is w, alike_map f is ws)

  pub alike_themselves : (ws : List Write) → AreAlike New ws ws
  alike_themselves [] = tt
  alike_themselves (w ∷ ws) = (alike-itself w, alike_themselves ws)

  -- the same is written at each key
  pub alike_at : (key : List ℕ) (ws xs : List Write) → AreAlike New ws xs → writes_on key xs ≡ writes_on key ws
  alike_at key [] [] a = refl
  alike_at key [] (x ∷ xs) a = absurd a
  alike_at key (w ∷ ws) [] a = absurd a
  alike_at key (w ∷ ws) (x ∷ xs) a =
      let later = alike_at key ws xs a.1 in
      let is = a.0 in
      ap (λ k. map as-laid (cond (same_key k key) (x ∷ filter (λ v. same_key v.key key) xs) (filter (λ v. same_key v.key key) xs))) is.key
      ∙ by (same_key w.key key) later is
    where
      by : (b : Bool) → writes_on key xs ≡ writes_on key ws → IsAlike New w x
          → map as-laid (cond b (x ∷ filter (λ v. same_key v.key key) xs) (filter (λ v. same_key v.key key) xs))
          ≡ map as-laid (cond b (w ∷ filter (λ v. same_key v.key key) ws) (filter (λ v. same_key v.key key) ws))
      by true later is = (λ i. (is.seq i, is.value i) ∷ later i)
      by false later is = later

  -- what is so of each write of the first is so of each of the second
  pub alike_each : (A B : Write → Type 0) → ((w x : Write) → A w → IsAlike New w x → B x) → (ws xs : List Write) → AreAlike New ws xs → Each A ws → Each B xs
  alike_each A B on [] [] a each = tt
  alike_each A B on [] (x ∷ xs) a each = absurd a
  alike_each A B on (w ∷ ws) [] a each = absurd a
  alike_each A B on (w ∷ ws) (x ∷ xs) a each = (on w x each.0 a.0, alike_each A B on ws xs a.1 each.1)

  -- a write of the second is one of the first
  pub alike_back : (ws xs : List Write) → AreAlike New ws xs → (x : Write) → Contains xs x → (w : Write) × Contains ws w × IsAlike New w x
  alike_back [] [] a x there = absurd (contains_nil x there)
  alike_back [] (y ∷ xs) a x there = absurd a
  alike_back (w ∷ ws) [] a x there = absurd a
  alike_back (w ∷ ws) (y ∷ xs) a x there =
      elim (contains_cons y xs x there) [
        | inl same ↦ (w, contains_head w ws, subst (IsAlike New w) same a.0)
        | inr later ↦ let r = alike_back ws xs a.1 x later in (r.0, contains_tail w ws r.0 r.1, r.2)
      ]

  -- and the other way round
  pub alike_on : (ws xs : List Write) → AreAlike New ws xs → (w : Write) → Contains ws w → (x : Write) × Contains xs x × IsAlike New w x
  alike_on [] xs a w there = absurd (contains_nil w there)
  alike_on (v ∷ ws) [] a w there = absurd a
  alike_on (v ∷ ws) (x ∷ xs) a w there =
      elim (contains_cons v ws w there) [
        | inl same ↦ (x, contains_head x xs, subst (λ v. IsAlike New v x) same a.0)
        | inr later ↦ let r = alike_on ws xs a.1 w later in (r.0, contains_tail x xs r.0 r.1, r.2)
      ]

-- ---- the order of the writes

-- The sequences rise from above this one.
abbrev pub Rise : ℕ → List Write → Type 0
Rise n [] = ⊤
Rise n (w ∷ ws) = (n < w.seq) × Rise w.seq ws

-- A write is proved where a later one of its key stands.
abbrev pub AreInTurn : List Write → Type 0
AreInTurn [] = ⊤
AreInTurn (w ∷ ws) = ((x : Write) → Contains ws x → same_key w.key x.key ≡ true → is_proved w ≡ true) × AreInTurn ws

module _ (New : Write → ℕ → Type 0) where
  pub alike_rise : (n m : ℕ) (ws xs : List Write) → m ≡ n → AreAlike New ws xs → Rise n ws → Rise m xs
  alike_rise n m [] [] same a r = tt
  alike_rise n m [] (x ∷ xs) same a r = absurd a
  alike_rise n m (w ∷ ws) [] same a r = absurd a
  alike_rise n m (w ∷ ws) (x ∷ xs) same a r = let is = a.0 in let seq : x.seq ≡ w.seq = is.seq in (omega (arith, r.0), alike_rise w.seq x.seq ws xs seq a.1 r.1)

  pub alike_turn : (ws xs : List Write) → AreAlike New ws xs → AreInTurn ws → AreInTurn xs
  alike_turn [] [] a t = tt
  alike_turn [] (x ∷ xs) a t = absurd a
  alike_turn (w ∷ ws) [] a t = absurd a
  alike_turn (w ∷ ws) (x ∷ xs) a t = (
    λ y there same.
        let is = a.0 in
        let old = alike_back New ws xs a.1 y there in
        let like = old.2 in
        let proof = proof_of w (t.0 old.0 old.1 (ap (λ k. same_key k old.0.key) (sym is.key) ∙ ap (same_key x.key) (sym like.key) ∙ same)) in
        proved_by x proof.0 (is.kept proof.0 proof.1),
    alike_turn ws xs a.1 t.1,
  )

-- The greatest sequence, begun with another number.
abbrev last-from : ℕ → List Write → ℕ
last-from most ws = fold (λ most w. max most w.seq) most ws

pub rise_push : (n : ℕ) (ws : List Write) (w : Write) → Rise n ws → last-from n ws < w.seq → Rise n (ws ++ w ∷ [])
rise_push n [] w r low = (low, tt)
rise_push n (x ∷ ws) w r low =
    let most : max n x.seq ≡ x.seq = omega (arith, r.0) in
    (r.0, rise_push x.seq ws w r.1 (subst (λ m. last-from m ws < w.seq) most low))

pub turn_push : (ws : List Write) (w : Write) → AreInTurn ws → Each (λ v. same_key v.key w.key ≡ true → is_proved v ≡ true) ws → AreInTurn (ws ++ w ∷ [])
turn_push [] w t each = (λ x there same. absurd (contains_nil x there), tt)
turn_push (v ∷ ws) w t each = (
  λ x there same. elim (Contains-push_cases ws w x there) [
    | inl before ↦ t.0 x before same
    | inr now ↦ each.0 (ap (λ (y : Write). same_key v.key y.key) now ∙ same)
  ],
  turn_push ws w t.1 each.1,
)

-- ---- what is written at one key

-- The sequences rise from above this one.
abbrev pub RiseAt : ℕ → List Laid → Type 0
RiseAt n [] = ⊤
RiseAt n (w ∷ ws) = (n < w.0) × RiseAt w.0 ws

rise-lower : (n m : ℕ) (ws : List Laid) → n ≤ m → RiseAt m ws → RiseAt n ws
rise-lower n m [] low r = tt
rise-lower n m (w ∷ ws) low r = (omega (arith, low, r.0), r.1)

pub rise_at : (key : List ℕ) (n : ℕ) (ws : List Write) → Rise n ws → RiseAt n (writes_on key ws)
rise_at key n [] r = tt
rise_at key n (w ∷ ws) r = by (same_key w.key key) (rise_at key w.seq ws r.1)
  where
    by : (b : Bool) → RiseAt w.seq (writes_on key ws) → RiseAt n (map as-laid (cond b (w ∷ filter (λ v. same_key v.key key) ws) (filter (λ v. same_key v.key key) ws)))
    by true later = (r.0, later)
    by false later = rise-lower n w.seq (writes_on key ws) (omega (arith, r.0)) later

each-above : (n : ℕ) (ws : List Laid) → RiseAt n ws → Each (λ x. n < x.0) ws
each-above n [] r = tt
each-above n (w ∷ ws) r = (r.0, each-above n ws (rise-lower n w.0 ws (omega (arith, r.0)) r.1))

-- what stands behind a write has greater sequences
pub rise_later : (n : ℕ) (front : List Laid) (w : Laid) (later : List Laid) → RiseAt n (front ++ w ∷ later) → Each (λ x. w.0 < x.0) later
rise_later n [] w later r = each-above w.0 later r.1
rise_later n (x ∷ front) w later r = rise_later x.0 front w later r.1

-- the last write has the greatest sequence
pub rise_last : (n : ℕ) (front : List Laid) (w : Laid) → RiseAt n (front ++ w ∷ []) → fold (λ most (x : Laid). max most x.0) n (front ++ w ∷ []) ≡ w.0
rise_last n [] w r = omega (arith, r.0)
rise_last n (x ∷ front) w r =
    let most : max n x.0 ≡ x.0 = omega (arith, r.0) in
    ap (λ m. fold (λ most (y : Laid). max most y.0) m (front ++ w ∷ [])) most ∙ rise_last x.0 front w r.1

not-lower : (m n : ℕ) → m < n → nat_lt n m ≡ false
not-lower m n low = grind (arith, low)

-- and it says what an intent of all of them says
last-best : (best : Laid) (front : List Laid) (w : Laid) → RiseAt best.0 (front ++ w ∷ []) → fold later_write (Some best) (front ++ w ∷ []) ≡ Some w
last-best best [] w r = ap (λ b. cond b (Some best) (Some w)) (not-lower best.0 w.0 r.0)
last-best best (x ∷ front) w r =
    ap (λ b. fold later_write (cond b (Some best) (Some x)) (front ++ w ∷ [])) (not-lower best.0 x.0 r.0) ∙ last-best x front w r.1

pub rise_value : (n : ℕ) (front : List Laid) (w : Laid) → RiseAt n (front ++ w ∷ []) → option_map (λ (x : Laid). x.1) (fold later_write None (front ++ w ∷ [])) ≡ Some w.1
rise_value n [] w r = refl
rise_value n (x ∷ front) w r = ap (option_map (λ (y : Laid). y.1)) (last-best x front w r.1)

at-most : (most : ℕ) (h : List Laid) → most ≤ fold (λ most (x : Laid). max most x.0) most h
at-most most [] = omega arith
at-most most (x ∷ h) = let more : max most x.0 ≤ fold (λ most (x : Laid). max most x.0) (max most x.0) h = at-most (max most x.0) h in omega (arith, more)

each-low : (most : ℕ) (h : List Laid) → Each (λ x. x.0 ≤ fold (λ most (x : Laid). max most x.0) most h) h
each-low most [] = tt
each-low most (x ∷ h) =
    let more : max most x.0 ≤ fold (λ most (x : Laid). max most x.0) (max most x.0) h = at-most (max most x.0) h in
    (omega (arith, more), each-low (max most x.0) h)

-- no sequence is above the last one
pub each_low : (h : List Laid) → Each (λ x. x.0 ≤ fold (λ most (x : Laid). max most x.0) 0 h) h
each_low h = each-low 0 h

pub last_low : (n most : ℕ) (h : List Laid) → most ≤ n → Each (λ x. x.0 ≤ n) h → fold (λ most (x : Laid). max most x.0) most h ≤ n
last_low n most [] low each = low
last_low n most (x ∷ h) low each = last_low n (max most x.0) h (omega (arith, low, each.0)) each.1

pub last_push : (h : List Laid) (w : Laid) → fold (λ most (x : Laid). max most x.0) 0 (h ++ w ∷ []) ≡ max (fold (λ most (x : Laid). max most x.0) 0 h) w.0
last_push h w = fold-append (λ most (x : Laid). max most x.0) 0 h (w ∷ [])

-- a front of the writes that ends where the others do
pub fronts_meet : (m : ℕ) (h rest front later : List Laid) (w : Laid) → h ++ rest ≡ front ++ w ∷ later → Each (λ x. x.0 ≤ m) h → Each (λ x. m < x.0) rest → Each (λ x. x.0 ≤ m) front → m < w.0
    → (h ≡ front) × (rest ≡ w ∷ later)
fronts_meet m [] rest [] later w is low high below above = (refl, is)
fronts_meet m [] [] (x ∷ front) later w is low high below above = absurd cc
fronts_meet m [] (y ∷ rest) (x ∷ front) later w is low high below above =
    let same : y ≡ x = cc in
    let seq : y.0 ≡ x.0 = ap (λ (z : Laid). z.0) same in
    absurd (omega (arith, high.0, below.0, seq))
fronts_meet m (x ∷ h) rest [] later w is low high below above =
    let same : x ≡ w = cc in
    let seq : x.0 ≡ w.0 = ap (λ (z : Laid). z.0) same in
    absurd (omega (arith, low.0, above, seq))
fronts_meet m (x ∷ h) rest (y ∷ front) later w is low high below above =
    let same : x ≡ y = cc in
    let next : h ++ rest ≡ front ++ w ∷ later = cc in
    let r = fronts_meet m h rest front later w next low.1 high below.1 above in
    ((λ i. same i ∷ r.0 i), r.1)

-- either nothing is left, or the last one is among what is left
pub left_over : (P : Laid → Type 0) (h rest front : List Laid) (w : Laid) → h ++ rest ≡ front ++ w ∷ [] → Each P rest → (rest ≡ []) ⊎ P w
left_over P h [] front w is each = inl refl
left_over P [] (x ∷ rest) front w is each =
    let all : Each P (front ++ w ∷ []) = subst (Each P) is each in
    inr (each-back P front (w ∷ []) all).0
left_over P (x ∷ h) (y ∷ rest) [] w is each =
    let next : h ++ y ∷ rest ≡ [] = cc in
    absurd (none h next)
  where
    none : (h : List Laid) → h ++ y ∷ rest ≡ [] → ⊥
    none [] e = absurd cc
    none (z ∷ h) e = absurd cc
left_over P (x ∷ h) (y ∷ rest) (z ∷ front) w is each =
    let next : h ++ y ∷ rest ≡ front ++ w ∷ [] = cc in
    left_over P h (y ∷ rest) front w next each

-- ---- where a write stands among those of its key

-- What is written at the key, split at this write; what stands before it is so.
pub record SplitAt (P : ℕ → Type 0) (key : List ℕ) (w : Laid) (ws : List Write) : Type 0 where
  pub front : List Laid
  pub later : List Laid
  pub whole : writes_on key ws ≡ front ++ w ∷ later
  pub before : Each (λ x. P x.0) front

module _ (P : ℕ → Type 0) (key : List ℕ) where
  -- a write of the key, split off
  pub split_at : (ws : List Write) → AreInTurn ws → Each (λ w. w.key ≡ key → is_proved w ≡ true → P w.seq) ws → (w : Write) → Contains ws w → w.key ≡ key → SplitAt P key (w.seq, w.value) ws
  split_at [] t each w there is = absurd (contains_nil w there)
  split_at (x ∷ ws) t each w there is =
      elim (contains_cons x ws w there) [
        | inl same ↦
            let here : same_key x.key key ≡ true = ap (λ (y : Write). same_key y.key key) same ∙ ap (λ k. same_key k key) is ∙ same_key-equal key key refl in
            record {
              front = [];
              later = writes_on key ws;
              whole =
                  ap (λ b. map as-laid (cond b (x ∷ filter (λ v. same_key v.key key) ws) (filter (λ v. same_key v.key key) ws))) here
                  ∙ ap (λ (y : Write). (y.seq, y.value) ∷ writes_on key ws) same;
              before = tt;
            }
        | inr later ↦ by (same_key x.key key) refl later (split_at ws t.1 each.1 w later is)
      ]
    where
      by : (b : Bool) → same_key x.key key ≡ b → Contains ws w → SplitAt P key (w.seq, w.value) ws → SplitAt P key (w.seq, w.value) (x ∷ ws)
      by true same later r = record {
        front = (x.seq, x.value) ∷ r.front;
        later = r.later;
        whole =
            ap (λ b. map as-laid (cond b (x ∷ filter (λ v. same_key v.key key) ws) (filter (λ v. same_key v.key key) ws))) same
            ∙ ap (λ l. (x.seq, x.value) ∷ l) r.whole;
        before = (each.0 (same_key-is x.key key same) (t.0 w later (ap (same_key x.key) is ∙ same)), r.before);
      }
      by false apart later r = record {
        front = r.front;
        later = r.later;
        whole =
            ap (λ b. map as-laid (cond b (x ∷ filter (λ v. same_key v.key key) ws) (filter (λ v. same_key v.key key) ws))) apart ∙ r.whole;
        before = r.before;
      }

-- what is written at the key after one more write
pub at_push : (key : List ℕ) (ws : List Write) (w : Write) → writes_on key (ws ++ w ∷ []) ≡ writes_on key ws ++ writes_on key (w ∷ [])
at_push key ws w =
    ap (map as-laid) (filter-append (λ (v : Write). same_key v.key key) ws (w ∷ []))
    ∙ map-append as-laid (filter (λ v. same_key v.key key) ws) (filter (λ v. same_key v.key key) (w ∷ []))

from-least : (most : ℕ) (ws : List Write) → most ≤ last-from most ws
from-least most [] = omega arith
from-least most (w ∷ ws) = let more : max most w.seq ≤ last-from (max most w.seq) ws = from-least (max most w.seq) ws in omega (arith, more)

at-low : (key : List ℕ) (most : ℕ) (ws : List Write) → Each (λ (x : Laid). x.0 ≤ last-from most ws) (writes_on key ws)
at-low key most [] = tt
at-low key most (w ∷ ws) = by (same_key w.key key) (at-low key (max most w.seq) ws) (from-least (max most w.seq) ws)
  where
    by : (b : Bool) → Each (λ (x : Laid). x.0 ≤ last-from (max most w.seq) ws) (writes_on key ws) → max most w.seq ≤ last-from (max most w.seq) ws
        → Each (λ (x : Laid). x.0 ≤ last-from (max most w.seq) ws) (map as-laid (cond b (w ∷ filter (λ v. same_key v.key key) ws) (filter (λ v. same_key v.key key) ws)))
    by true later low = (omega (arith, low), later)
    by false later low = later

-- no sequence at a key is above the last one
pub at_low : (key : List ℕ) (ws : List Write) → Each (λ (x : Laid). x.0 ≤ last_seq_of ws) (writes_on key ws)
at_low key ws = at-low key 0 ws

pub written_at : (key : List ℕ) (ws : List Write) (w : Write) → Contains ws w → w.key ≡ key → Contains (writes_on key ws) (w.seq, w.value)
written_at key [] w there is = absurd (contains_nil w there)
written_at key (x ∷ ws) w there is = by (λ later. written_at key ws w later is) (same_key x.key key) refl (contains_cons x ws w there)
  where
    by : (Contains ws w → Contains (writes_on key ws) (w.seq, w.value)) → (b : Bool) → same_key x.key key ≡ b → (x ≡ w) ⊎ Contains ws w → Contains (map as-laid (cond b (x ∷ filter (λ v. same_key v.key key) ws) (filter (λ v. same_key v.key key) ws))) (w.seq, w.value)
    by rest true e (inl same) = subst (λ (y : Write). Contains ((x.seq, x.value) ∷ writes_on key ws) (y.seq, y.value)) same (contains_head (x.seq, x.value) (writes_on key ws))
    by rest true e (inr later) = contains_tail (x.seq, x.value) (writes_on key ws) (w.seq, w.value) (rest later)
    by rest false e (inl same) =
        let here : same_key x.key key ≡ true = ap (λ (y : Write). same_key y.key key) same ∙ ap (λ k. same_key k key) is ∙ same_key-equal key key refl in absurd cc
    by rest false e (inr later) = rest later
