-- The pieces of a span rise in the order of spans.
use Rattle.std.proofs.Common.{◌≡◌, ℕ, ◌+◌, Bool, true, false, not, if◌then◌else◌, List, [], ◌∷◌, ◌++◌, Option, None, Some, refl, sym, subst, All, IsTrue}
use Rattle.std.proofs.lemmas.Bool.{and_parts}
use Rattle.std.proofs.lemmas.List.Elements.{All-append, All-cons, All-nil, All-weaker}
use Rattle.std.specs.Cmp.Lexicographic.{slice_cmp}
use Rattle.std.specs.declared.cmp.Ordering.{Ordering}
use Rattle.std.specs.declared.cmp.Ordering.TheVariants as orderings
use Rattle.std.specs.Ordering.{is_lt, nat_cmp, ordering_then}
use Rattle.pc_base.specs.declared.span.Span.{Span}
use Rattle.pc_base.specs.declared.span.Span.TheVariants.{One, Between}
use Rattle.pc_base.specs.Rising.{AreRising, keys_rise}
use Rattle.pc_base.specs.Span.{is_empty, key_below}
use Rattle.pc_base.specs.SpanOrder.{rest_cmp, span_cmp, start_of}
use Rattle.pc_lists.proofs.Same.{key_below-self}
use Rattle.pc_wave.specs.Standing.{Pairwise}
use Rattle.pc_world.proofs.KeyOrder.{at_most-through, below-once, below-through}
use Rattle.pc_world.specs.RangeOf.{earlier_end, later_start, piece, pieces, pieces_from, range_of}

-- The piece stands before the other in key order.
abbrev pub IsBefore : ℕ × Span → ℕ × Span → Type 0
IsBefore p q = IsTrue (is_lt (span_cmp p.1 q.1))

-- The piece starts at a key that is not below this one.
record StartsFrom (low : List ℕ) (p : ℕ × Span) : Type 0 where
  key : List ℕ
  is : start_of p.1 ≡ Some key
  from : key_below key low ≡ false

then_less : (o rest : Ordering) → is_lt o ≡ true → is_lt (ordering_then o rest) ≡ true
then_less orderings.Less rest less = refl
then_less orderings.Equal rest less = absurd cc
then_less orderings.Greater rest less = absurd cc

first_rises : (split : List ℕ) (next : List ℕ) (splits : List (List ℕ)) → AreRising (split ∷ next ∷ splits) → key_below split next ≡ true
first_rises split next splits rising = (and_parts (key_below split next) (keys_rise (next ∷ splits)) rising).0

rest_rises : (split : List ℕ) (splits : List (List ℕ)) → AreRising (split ∷ splits) → AreRising splits
rest_rises split [] rising = refl
rest_rises split (next ∷ splits) rising = (and_parts (key_below split next) (keys_rise (next ∷ splits)) rising).1

-- a piece of keys from a start that is not below a key starts so
piece_from : (range : ℕ) (low : List ℕ) (from to : Option (List ℕ)) → All (StartsFrom low) (piece range (later_start (Some low) from) to)
piece_from range low None to = by (is_empty (Some low) to)
  where
    by : (b : Bool) → All (StartsFrom low) (if b then [] else (range, Between (Some low) to) ∷ [])
    by true = All-nil (StartsFrom low)
    by false = All-cons (StartsFrom low) (range, Between (Some low) to) [] (record { key = low; is = refl; from = key_below-self low }) (All-nil (StartsFrom low))
piece_from range low (Some start) to = from_later (key_below low start) refl
  where
    one : (begin : List ℕ) → key_below begin low ≡ false → (b : Bool) → All (StartsFrom low) (if b then [] else (range, Between (Some begin) to) ∷ [])
    one begin high true = All-nil (StartsFrom low)
    one begin high false = All-cons (StartsFrom low) (range, Between (Some begin) to) [] (record { key = begin; is = refl; from = high }) (All-nil (StartsFrom low))

    from_later : (b : Bool) → key_below low start ≡ b → All (StartsFrom low) (piece range (if b then Some start else Some low) to)
    from_later true is = one start (below-once low start is) (is_empty (Some start) to)
    from_later false is = one low (key_below-self low) (is_empty (Some low) to)

-- all pieces behind a split start there or later
all_from : (range : ℕ) (low : List ℕ) (splits : List (List ℕ)) (from to : Option (List ℕ)) → AreRising (low ∷ splits) → All (StartsFrom low) (pieces_from range (Some low) splits from to)
all_from range low [] from to rising = piece_from range low from to
all_from range low (split ∷ splits) from to rising =
    let rest = pieces_from (range + 1) (Some split) splits from to in
    let later = all_from (range + 1) split splits from to (rest_rises low (split ∷ splits) rising) in
    All-append (StartsFrom low) (piece range (later_start (Some low) from) (earlier_end (Some split) to)) rest (piece_from range low from (earlier_end (Some split) to))
    (All-weaker (StartsFrom split) (StartsFrom low) (λ p s. record { key = s.key; is = s.is; from = at_most-through low split s.key (below-once low split (first_rises low split splits rising)) s.from }) rest later)

before_from : (range at : ℕ) (key start : List ℕ) (to : Option (List ℕ)) (other : Span) → start_of other ≡ Some start → key_below key start ≡ true → IsBefore (range, Between (Some key) to) (at, other)
before_from range at key start to (One one) is below =
    let same : one ≡ start = cc in
    then_less (slice_cmp nat_cmp key one) (rest_cmp (Between (Some key) to) (One one)) (subst (λ s. key_below key s ≡ true) (sym same) below)
before_from range at key start to (Between None end) is below = absurd cc
before_from range at key start to (Between (Some one) end) is below =
    let same : one ≡ start = cc in
    then_less (slice_cmp nat_cmp key one) (rest_cmp (Between (Some key) to) (Between (Some one) end)) (subst (λ s. key_below key s ≡ true) (sym same) below)

before_open : (range at : ℕ) (start : List ℕ) (to : Option (List ℕ)) (other : Span) → start_of other ≡ Some start → IsBefore (range, Between None to) (at, other)
before_open range at start to (One one) is = refl
before_open range at start to (Between None end) is = absurd cc
before_open range at start to (Between (Some one) end) is = refl

-- what is not empty and ends at a split or before starts before it
below_split : (key split : List ℕ) (to : Option (List ℕ)) → is_empty (Some key) (earlier_end (Some split) to) ≡ false → key_below key split ≡ true
below_split key split None some = not_not (key_below key split) some
  where
    not_not : (b : Bool) → not b ≡ false → b ≡ true
    not_not true e = refl
    not_not false e = absurd cc
below_split key split (Some end) some = by (key_below end split) refl some
  where
    not_not : (b : Bool) → not b ≡ false → b ≡ true
    not_not true e = refl
    not_not false e = absurd cc

    by : (b : Bool) → key_below end split ≡ b → is_empty (Some key) (if b then Some end else Some split) ≡ false → key_below key split ≡ true
    by true is e = below-through key end split (not_not (key_below key end) e) (below-once end split is)
    by false is e = not_not (key_below key split) e

-- a piece that ends at a split stands before all that start there or later
piece_before : (range : ℕ) (start : Option (List ℕ)) (split : List ℕ) (to : Option (List ℕ)) → is_empty start (earlier_end (Some split) to) ≡ false → (q : ℕ × Span) → StartsFrom split q → IsBefore (range, Between start (earlier_end (Some split) to)) q
piece_before range None split to some (at, other) s = before_open range at s.key (earlier_end (Some split) to) other s.is
piece_before range (Some key) split to some (at, other) s = before_from range at key s.key (earlier_end (Some split) to) other s.is (below-through key split s.key (below_split key split to some) s.from)

-- the pieces behind a split, with the one before it
rise_on : (range : ℕ) (start : Option (List ℕ)) (split : List ℕ) (to : Option (List ℕ)) (rest : List (ℕ × Span)) → All (StartsFrom split) rest → Pairwise IsBefore rest → Pairwise IsBefore (piece range start (earlier_end (Some split) to) ++ rest)
rise_on range start split to rest from later = by (is_empty start (earlier_end (Some split) to)) refl
  where
    by : (b : Bool) → is_empty start (earlier_end (Some split) to) ≡ b → Pairwise IsBefore ((if b then [] else (range, Between start (earlier_end (Some split) to)) ∷ []) ++ rest)
    by true is = later
    by false is = (All-weaker (StartsFrom split) (IsBefore (range, Between start (earlier_end (Some split) to))) (piece_before range start split to is) rest from, later)

all_rise : (range : ℕ) (low : Option (List ℕ)) (splits : List (List ℕ)) (from to : Option (List ℕ)) → AreRising splits → Pairwise IsBefore (pieces_from range low splits from to)
all_rise range low [] from to rising = by (is_empty (later_start low from) to)
  where
    by : (b : Bool) → Pairwise IsBefore (if b then [] else (range, Between (later_start low from) to) ∷ [])
    by true = tt
    by false = (All-nil (IsBefore (range, Between (later_start low from) to)), tt)
all_rise range low (split ∷ splits) from to rising =
    rise_on range (later_start low from) split to (pieces_from (range + 1) (Some split) splits from to) (all_from (range + 1) split splits from to rising) (all_rise (range + 1) (Some split) splits from to (rest_rises split splits rising))

-- each piece of a span stands before those behind it
pub pieces_rise : (splits : List (List ℕ)) (whole : Span) → AreRising splits → Pairwise IsBefore (pieces splits whole)
pieces_rise splits (One key) rising = (All-nil (IsBefore (range_of splits key, One key)), tt)
pieces_rise splits (Between from to) rising = all_rise 0 None splits from to rising
