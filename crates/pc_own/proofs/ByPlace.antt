-- The writes of an epoch by their places.
use Rattle.std.proofs.Common.{◌≡◌, ℕ, suc, ◌<◌, ◌==◌, ◌||◌, Bool, true, false, max, cond, fold, List, [], ◌∷◌, ◌++◌, Option, None, Some, find, length, map, slice_get, slice_index_or, slice_set, refl, sym, ap, ◌∙◌, arith}
use Rattle.std.proofs.lemmas.Grind.{common_steps}
use Rattle.std.specs.List.{list_any}
use Rattle.std.specs.Option.{option_map}
use Rattle.std.specs.Ordering.{is_eq, nat_cmp}
use Rattle.pc_own.specs.Places.{HaveOwnSequences, place_by_sequence}
use Rattle.pc_world.specs.Known.Writes.{Write, last_seq_of}

pub numbers_equal : (m n : ℕ) → is_eq (nat_cmp m n) ≡ (m == n)
numbers_equal m n = grind (arith, common_steps)

-- what is not moved on stands nowhere
moved-none : (o : Option ℕ) → option_map suc o ≡ None → o ≡ None
moved-none None h = refl
moved-none (Some n) h = absurd cc

moved-some : (o : Option ℕ) (i : ℕ) → option_map suc o ≡ Some i → (j : ℕ) × (o ≡ Some j) × (i ≡ suc j)
moved-some None i h = absurd cc
moved-some (Some j) i h = (j, refl, cc)

same-seq : (a b c : ℕ) → (a == c) ≡ true → (b == c) ≡ true → (a == b) ≡ false → false ≡ true
same-seq a b c one two apart = grind (arith, common_steps)

other-seq : (a b c : ℕ) → (a == c) ≡ true → (b == a) ≡ false → (b == c) ≡ false
other-seq a b c one two = grind (arith, common_steps)

turned : (a b : ℕ) → (a == b) ≡ false → (b == a) ≡ false
turned a b e = grind (arith, common_steps)

-- The first place, where the first write is it or another.
abbrev first_by : Bool → Option ℕ → Option ℕ
first_by b later = cond b (Some 0) (option_map suc later)

none-by : (b any : Bool) (later : Option ℕ) → first_by b later ≡ None → (later ≡ None → any ≡ false) → (b || any) ≡ false
none-by true any later h rest = absurd cc
none-by false any later h rest = rest (moved-none later h)

some-by : (b any : Bool) (later : Option ℕ) (i : ℕ) → first_by b later ≡ Some i → ((j : ℕ) → later ≡ Some j → any ≡ true) → (b || any) ≡ true
some-by true any later i h rest = refl
some-by false any later i h rest = let m = moved-some later i h in rest m.0 m.1

within-by : (b : Bool) (later : Option ℕ) (i n : ℕ) → first_by b later ≡ Some i → ((j : ℕ) → later ≡ Some j → j < n) → i < suc n
within-by true later i n h rest = let e : 0 ≡ i = cc in omega arith
within-by false later i n h rest =
    let m = moved-some later i h in
    let low : m.0 < n = rest m.0 m.1 in
    let e : i ≡ suc m.0 = m.2 in
    omega arith

pub not_there : (seq : ℕ) (ws : List Write) → place_by_sequence seq ws ≡ None → list_any (λ w. w.seq == seq) ws ≡ false
not_there seq [] h = refl
not_there seq (w ∷ ws) h = none-by (w.seq == seq) (list_any (λ w. w.seq == seq) ws) (place_by_sequence seq ws) h (not_there seq ws)

pub is_there : (seq : ℕ) (ws : List Write) (i : ℕ) → place_by_sequence seq ws ≡ Some i → list_any (λ w. w.seq == seq) ws ≡ true
is_there seq [] i h = absurd cc
is_there seq (w ∷ ws) i h = some-by (w.seq == seq) (list_any (λ w. w.seq == seq) ws) (place_by_sequence seq ws) i h (is_there seq ws)

pub within : (seq : ℕ) (ws : List Write) (i : ℕ) → place_by_sequence seq ws ≡ Some i → i < length ws
within seq [] i h = absurd cc
within seq (w ∷ ws) i h = within-by (w.seq == seq) (place_by_sequence seq ws) i (length ws) h (within seq ws)

found-by : (b : Bool) (w : Write) (ws : List Write) (later : Option ℕ) (found : Option Write) (i : ℕ) → first_by b later ≡ Some i → ((j : ℕ) → later ≡ Some j → slice_get ws j ≡ found) → slice_get (w ∷ ws) i ≡ cond b (Some w) found
found-by true w ws later found i h rest = let e : 0 ≡ i = cc in ap (slice_get (w ∷ ws)) (sym e)
found-by false w ws later found i h rest = let m = moved-some later i h in ap (slice_get (w ∷ ws)) m.2 ∙ rest m.0 m.1

lost-by : (b : Bool) (w : Write) (later : Option ℕ) (found : Option Write) → first_by b later ≡ None → (later ≡ None → None ≡ found) → None ≡ cond b (Some w) found
lost-by true w later found h rest = absurd cc
lost-by false w later found h rest = rest (moved-none later h)

-- the search by sequence finds what stands at that place
pub found_at : (seq : ℕ) (ws : List Write) (i : ℕ) → place_by_sequence seq ws ≡ Some i → slice_get ws i ≡ find (λ w. w.seq == seq) ws
found_at seq [] i h = absurd cc
found_at seq (w ∷ ws) i h = found-by (w.seq == seq) w ws (place_by_sequence seq ws) (find (λ w. w.seq == seq) ws) i h (found_at seq ws)

-- and nothing where there is none
pub found_none : (seq : ℕ) (ws : List Write) → place_by_sequence seq ws ≡ None → None ≡ find (λ w. w.seq == seq) ws
found_none seq [] h = refl
found_none seq (w ∷ ws) h = lost-by (w.seq == seq) w (place_by_sequence seq ws) (find (λ w. w.seq == seq) ws) h (found_none seq ws)

or-false : (b c : Bool) → (b || c) ≡ false → (b ≡ false) × (c ≡ false)
or-false true c h = absurd cc
or-false false c h = (refl, h)

none-here : (seq : ℕ) (w : Write) (ws : List Write) → (w.seq == seq) ≡ true → list_any (λ v. v.seq == w.seq) ws ≡ false → list_any (λ v. v.seq == seq) ws ≡ false
none-here seq w [] is h = refl
none-here seq w (v ∷ ws) is h =
    let both = or-false (v.seq == w.seq) (list_any (λ v. v.seq == w.seq) ws) h in
    ap (λ b. b || list_any (λ v. v.seq == seq) ws) (other-seq w.seq v.seq seq is both.0) ∙ none-here seq w ws is both.1

-- a change of one write
module _ (seq : ℕ) (f : Write → Write) (others : (w : Write) → (w.seq == seq) ≡ false → f w ≡ w) where
  pub none_changed : (ws : List Write) → list_any (λ w. w.seq == seq) ws ≡ false → map f ws ≡ ws
  none_changed [] h = refl
  none_changed (w ∷ ws) h =
      let both = or-false (w.seq == seq) (list_any (λ w. w.seq == seq) ws) h in
      ap (λ v. v ∷ map f ws) (others w both.0) ∙ ap (λ vs. w ∷ vs) (none_changed ws both.1)

  changed-by : (b : Bool) (w : Write) (ws : List Write) (i : ℕ) (d : Write) → (w.seq == seq) ≡ b → list_any (λ v. v.seq == w.seq) ws ≡ false → first_by b (place_by_sequence seq ws) ≡ Some i
      → ((j : ℕ) → place_by_sequence seq ws ≡ Some j → map f ws ≡ slice_set ws j (f (slice_index_or ws j d))) → f w ∷ map f ws ≡ slice_set (w ∷ ws) i (f (slice_index_or (w ∷ ws) i d))
  changed-by true w ws i d is apart h rest =
      let e : 0 ≡ i = cc in
      ap (λ vs. f w ∷ vs) (none_changed ws (none-here seq w ws is apart)) ∙ ap (λ n. slice_set (w ∷ ws) n (f (slice_index_or (w ∷ ws) n d))) e
  changed-by false w ws i d is apart h rest =
      let m = moved-some (place_by_sequence seq ws) i h in
      ap (λ v. v ∷ map f ws) (others w is) ∙ ap (λ vs. w ∷ vs) (rest m.0 m.1) ∙ ap (λ n. slice_set (w ∷ ws) n (f (slice_index_or (w ∷ ws) n d))) (sym m.2)

  pub one_changed_at : (ws : List Write) (i : ℕ) (d : Write) → HaveOwnSequences ws → place_by_sequence seq ws ≡ Some i → map f ws ≡ slice_set ws i (f (slice_index_or ws i d))
  one_changed_at [] i d apart h = absurd cc
  one_changed_at (w ∷ ws) i d apart h = changed-by (w.seq == seq) w ws i d refl apart.0 h (λ j there. one_changed_at ws j d apart.1 there)

-- one more write
pushed-by : (b c a : Bool) (n : ℕ) (old new : Option ℕ) → (b ≡ true → c ≡ true → a ≡ false → false ≡ true) → a ≡ false → new ≡ cond c (Some n) old → first_by b new ≡ cond c (Some (suc n)) (first_by b old)
pushed-by true true a n old new clash apart later = absurd (let e = clash refl refl apart in cc)
pushed-by true false a n old new clash apart later = refl
pushed-by false true a n old new clash apart later = ap (option_map suc) later
pushed-by false false a n old new clash apart later = ap (option_map suc) later

first-apart : (b : Bool) (later : Option ℕ) → first_by b later ≡ None → (b ≡ false) × (later ≡ None)
first-apart true later h = absurd cc
first-apart false later h = (refl, moved-none later h)

pub place_pushed : (q : ℕ) (ws : List Write) (w : Write) → place_by_sequence w.seq ws ≡ None → place_by_sequence q (ws ++ w ∷ []) ≡ cond (w.seq == q) (Some (length ws)) (place_by_sequence q ws)
place_pushed q [] w h = refl
place_pushed q (v ∷ ws) w h =
    let both = first-apart (v.seq == w.seq) (place_by_sequence w.seq ws) h in
    pushed-by (v.seq == q) (w.seq == q) (v.seq == w.seq) (length ws) (place_by_sequence q ws) (place_by_sequence q (ws ++ w ∷ [])) (same-seq v.seq w.seq q) both.0 (place_pushed q ws w both.1)

any-pushed : (p : Write → Bool) (ws : List Write) (w : Write) → list_any p ws ≡ false → p w ≡ false → list_any p (ws ++ w ∷ []) ≡ false
any-pushed p [] w h is = ap (λ b. b || false) is
any-pushed p (v ∷ ws) w h is =
    let both = or-false (p v) (list_any p ws) h in
    ap (λ b. b || list_any p (ws ++ w ∷ [])) both.0 ∙ any-pushed p ws w both.1 is

pub apart_pushed : (ws : List Write) (w : Write) → HaveOwnSequences ws → place_by_sequence w.seq ws ≡ None → HaveOwnSequences (ws ++ w ∷ [])
apart_pushed [] w apart h = (refl, tt)
apart_pushed (v ∷ ws) w apart h =
    let both = first-apart (v.seq == w.seq) (place_by_sequence w.seq ws) h in
    (any-pushed (λ u. u.seq == v.seq) ws w apart.0 (turned v.seq w.seq both.0), apart_pushed ws w apart.1 both.1)

fold-pushed : (n : ℕ) (ws : List Write) (w : Write) → fold (λ most w. max most w.seq) n (ws ++ w ∷ []) ≡ max (fold (λ most w. max most w.seq) n ws) w.seq
fold-pushed n [] w = refl
fold-pushed n (v ∷ ws) w = fold-pushed (max n v.seq) ws w

pub last_pushed : (ws : List Write) (w : Write) → last_seq_of (ws ++ w ∷ []) ≡ max (last_seq_of ws) w.seq
last_pushed ws w = fold-pushed 0 ws w

-- a change that leaves the sequences
module _ (f : Write → Write) (same : (w : Write) → (f w).seq ≡ w.seq) where
  pub place_kept : (q : ℕ) (ws : List Write) → place_by_sequence q (map f ws) ≡ place_by_sequence q ws
  place_kept q [] = refl
  place_kept q (w ∷ ws) =
      ap (λ n. cond (n == q) (Some 0) (option_map suc (place_by_sequence q (map f ws)))) (same w)
      ∙ ap (λ o. cond (w.seq == q) (Some 0) (option_map suc o)) (place_kept q ws)

  any-kept : (n : ℕ) (ws : List Write) → list_any (λ v. v.seq == n) (map f ws) ≡ list_any (λ v. v.seq == n) ws
  any-kept n [] = refl
  any-kept n (w ∷ ws) =
      ap (λ m. (m == n) || list_any (λ v. v.seq == n) (map f ws)) (same w)
      ∙ ap (λ b. (w.seq == n) || b) (any-kept n ws)

  pub apart_kept : (ws : List Write) → HaveOwnSequences ws → HaveOwnSequences (map f ws)
  apart_kept [] apart = tt
  apart_kept (w ∷ ws) apart = (ap (λ n. list_any (λ v. v.seq == n) (map f ws)) (same w) ∙ any-kept w.seq ws ∙ apart.0, apart_kept ws apart.1)

  fold-kept : (n : ℕ) (ws : List Write) → fold (λ most w. max most w.seq) n (map f ws) ≡ fold (λ most w. max most w.seq) n ws
  fold-kept n [] = refl
  fold-kept n (w ∷ ws) = ap (λ m. fold (λ most w. max most w.seq) (max n m) (map f ws)) (same w) ∙ fold-kept (max n w.seq) ws

  pub last_kept : (ws : List Write) → last_seq_of (map f ws) ≡ last_seq_of ws
  last_kept ws = fold-kept 0 ws
