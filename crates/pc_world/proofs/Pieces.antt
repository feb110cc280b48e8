-- Each piece of a span lies in the one range that it was cut for, and the pieces differ.
use Rattle.std.proofs.Common.{◌≡◌, ℕ, ◌+◌, ◌<◌, ◌≤◌, Bool, true, false, cond, if◌then◌else◌, not, ◌⊎◌, inl, inr, List, [], ◌∷◌, ◌++◌, map, Option, None, Some, Contains, refl, sym, ap, ◌∙◌, subst, arith}
use Rattle.std.proofs.lemmas.Bool.{and_parts}
use Rattle.std.proofs.lemmas.List.Elements.{All-contains, All-from_recursion, All-map}
use Rattle.std.proofs.lemmas.List.Sums.{sum_by-cons}
use Rattle.std.specs.Bool.{⊤}
use Rattle.std.specs.List.{AllByRecursion as Each}
use Rattle.pc_base.specs.declared.span.Span.{Span}
use Rattle.pc_base.specs.declared.span.Span.TheVariants.{One, Between}
use Rattle.pc_base.specs.Rising.{AreRising, keys_rise}
use Rattle.pc_base.specs.Span.{is_empty, key_at_most, key_below}
use Rattle.pc_lists.proofs.Each.{each-append, each-weaker}
use Rattle.pc_lists.proofs.Same.{key_below-self}
use Rattle.pc_world.proofs.KeyOrder.{at_most-is, at_most-through, below-once, below-through}
use Rattle.pc_world.specs.RangeOf.{AreDistinct, LiesInOne, earlier_end, later_start, piece, pieces, pieces_from, range_of, range_of_start}

-- A key that an end of a span is, and that is not below another.
record IsFrom (low : List ℕ) (end : Option (List ℕ)) : Type 0 where
  key : List ℕ
  is : end ≡ Some key
  from : key_below key low ≡ false

-- A key that an end of a span is, and that is not above another.
record IsUpTo (high : List ℕ) (end : Option (List ℕ)) : Type 0 where
  key : List ℕ
  is : end ≡ Some key
  up_to : key_below high key ≡ false

pub later-again : (one other : Option (List ℕ)) → later_start one (later_start one other) ≡ later_start one other
later-again None other = refl
later-again (Some one) None = ap (λ b. if b then Some one else Some one) (key_below-self one)
later-again (Some one) (Some other) = by (key_below one other) refl
  where
    by : (b : Bool) → key_below one other ≡ b → later_start (Some one) (if b then Some other else Some one) ≡ (if b then Some other else Some one)
    by true is = ap (λ b. if b then Some other else Some one) is
    by false is = ap (λ b. if b then Some one else Some one) (key_below-self one)

pub earlier-again : (one other : Option (List ℕ)) → earlier_end one (earlier_end one other) ≡ earlier_end one other
earlier-again None other = refl
earlier-again (Some one) None = ap (λ b. if b then Some one else Some one) (key_below-self one)
earlier-again (Some one) (Some other) = by (key_below other one) refl
  where
    by : (b : Bool) → key_below other one ≡ b → earlier_end (Some one) (if b then Some other else Some one) ≡ (if b then Some other else Some one)
    by true is = ap (λ b. if b then Some other else Some one) is
    by false is = ap (λ b. if b then Some one else Some one) (key_below-self one)

-- the later of two starts is not before the one
later-from : (one : List ℕ) (other : Option (List ℕ)) → IsFrom one (later_start (Some one) other)
later-from one None = record { key = one; is = refl; from = key_below-self one }
later-from one (Some other) = by (key_below one other) refl
  where
    by : (b : Bool) → key_below one other ≡ b → IsFrom one (if b then Some other else Some one)
    by true is = record { key = other; is = refl; from = below-once one other is }
    by false is = record { key = one; is = refl; from = key_below-self one }

-- nor before the other
later-from-other : (one : Option (List ℕ)) (other : List ℕ) → IsFrom other (later_start one (Some other))
later-from-other None other = record { key = other; is = refl; from = key_below-self other }
later-from-other (Some one) other = by (key_below one other) refl
  where
    by : (b : Bool) → key_below one other ≡ b → IsFrom other (if b then Some other else Some one)
    by true is = record { key = other; is = refl; from = key_below-self other }
    by false is = record { key = one; is = refl; from = is }

-- the earlier of two ends is not behind the one
earlier-up-to : (one : List ℕ) (other : Option (List ℕ)) → IsUpTo one (earlier_end (Some one) other)
earlier-up-to one None = record { key = one; is = refl; up_to = key_below-self one }
earlier-up-to one (Some other) = by (key_below other one) refl
  where
    by : (b : Bool) → key_below other one ≡ b → IsUpTo one (if b then Some other else Some one)
    by true is = record { key = other; is = refl; up_to = below-once other one is }
    by false is = record { key = one; is = refl; up_to = key_below-self one }

-- nor behind the other
earlier-up-to-other : (one : Option (List ℕ)) (other : List ℕ) → IsUpTo other (earlier_end one (Some other))
earlier-up-to-other None other = record { key = other; is = refl; up_to = key_below-self other }
earlier-up-to-other (Some one) other = by (key_below other one) refl
  where
    by : (b : Bool) → key_below other one ≡ b → IsUpTo other (if b then Some other else Some one)
    by true is = record { key = other; is = refl; up_to = key_below-self other }
    by false is = record { key = one; is = refl; up_to = is }

-- a span whose end is not behind a key, and whose start is not before that, is empty
empty-at : (cut : List ℕ) (from to : Option (List ℕ)) → IsFrom cut from → IsUpTo cut to → is_empty from to ≡ true
empty-at cut from to start end =
    ap (λ e. is_empty e to) start.is ∙ ap (λ e. is_empty (Some start.key) e) end.is ∙ ap not (at_most-through end.key cut start.key end.up_to start.from)

no-piece : (range : ℕ) (from to : Option (List ℕ)) → is_empty from to ≡ true → piece range from to ≡ []
no-piece range from to is = ap (λ b. if b then [] else (range, Between from to) ∷ []) is

one-piece : (range : ℕ) (from to : Option (List ℕ)) → is_empty from to ≡ false → piece range from to ≡ (range, Between from to) ∷ []
one-piece range from to is = ap (λ b. if b then [] else (range, Between from to) ∷ []) is

first-rises : (low split : List ℕ) (splits : List (List ℕ)) → AreRising (low ∷ split ∷ splits) → key_below low split ≡ true
first-rises low split splits rising = (and_parts (key_below low split) (keys_rise (split ∷ splits)) rising).0

rest-rises : (split : List ℕ) (splits : List (List ℕ)) → AreRising (split ∷ splits) → AreRising splits
rest-rises split [] rising = refl
rest-rises split (next ∷ splits) rising = (and_parts (key_below split next) (keys_rise (next ∷ splits)) rising).1

-- In which of the ranges from this one on a span lies.
abbrev LiesAt : ℕ → Option (List ℕ) → List (List ℕ) → ℕ → Option (List ℕ) → Option (List ℕ) → Type 0
LiesAt range low [] at from to = (at ≡ range) × (later_start low from ≡ from) × (is_empty from to ≡ false)
LiesAt range low (split ∷ splits) at from to =
    ((at ≡ range) × (later_start low from ≡ from) × (earlier_end (Some split) to ≡ to) × (is_empty from to ≡ false)) ⊎ LiesAt (range + 1) (Some split) splits at from to

-- The piece is of a span with two ends that lies in its range.
abbrev IsPiece : ℕ → Option (List ℕ) → List (List ℕ) → ℕ × Span → Type 0
IsPiece range low splits (at, One key) = ⊥
IsPiece range low splits (at, Between from to) = LiesAt range low splits at from to

each-piece : (P : ℕ × Span → Type 0) (range : ℕ) (from to : Option (List ℕ)) → (is_empty from to ≡ false → P (range, Between from to)) → Each P (piece range from to)
each-piece P range from to here = by (is_empty from to) refl
  where
    by : (b : Bool) → is_empty from to ≡ b → Each P (if b then [] else (range, Between from to) ∷ [])
    by true is = tt
    by false is = (here is, tt)

there : (range : ℕ) (low : Option (List ℕ)) (split : List ℕ) (splits : List (List ℕ)) (p : ℕ × Span) → IsPiece (range + 1) (Some split) splits p → IsPiece range low (split ∷ splits) p
there range low split splits (at, One key) is = is
there range low split splits (at, Between from to) is = inr is

are-pieces : (range : ℕ) (low : Option (List ℕ)) (splits : List (List ℕ)) (from to : Option (List ℕ)) → Each (IsPiece range low splits) (pieces_from range low splits from to)
are-pieces range low [] from to = each-piece (IsPiece range low []) range (later_start low from) to (λ is. (refl, later-again low from, is))
are-pieces range low (split ∷ splits) from to =
    let P : ℕ × Span → Type 0 = IsPiece range low (split ∷ splits) in
    let rest = pieces_from (range + 1) (Some split) splits from to in
    let end = earlier_end (Some split) to in
    each-append P (piece range (later_start low from) end) rest
    (each-piece P range (later_start low from) end (λ is. inl (refl, later-again low from, earlier-again (Some split) to, is)))
    (each-weaker (IsPiece (range + 1) (Some split) splits) P (there range low split splits) rest (are-pieces (range + 1) (Some split) splits from to))

-- a start that no later one is put for is not before the range
start-from : (low : List ℕ) (from : Option (List ℕ)) → later_start (Some low) from ≡ from → IsFrom low from
start-from low from is = subst (IsFrom low) is (later-from low from)

end-up-to : (high : List ℕ) (to : Option (List ℕ)) → earlier_end (Some high) to ≡ to → IsUpTo high to
end-up-to high to is = subst (IsUpTo high) is (earlier-up-to high to)

-- what lies in a range behind a split does not start before that
lies-from : (range : ℕ) (low : List ℕ) (splits : List (List ℕ)) (at : ℕ) (from to : Option (List ℕ)) → AreRising (low ∷ splits) → LiesAt range (Some low) splits at from to → IsFrom low from
lies-from range low [] at from to rising lies = start-from low from lies.1
lies-from range low (split ∷ splits) at from to rising (inl here) = start-from low from here.1
lies-from range low (split ∷ splits) at from to rising (inr there) =
    let start = lies-from (range + 1) split splits at from to (rest-rises low (split ∷ splits) rising) there in
    record { key = start.key; is = start.is; from = at_most-through low split start.key (below-once low split (first-rises low split splits rising)) start.from }

up-to-later : (one other : List ℕ) (end : Option (List ℕ)) → key_below other one ≡ false → IsUpTo one end → IsUpTo other end
up-to-later one other end at-most is = record { key = is.key; is = is.is; up_to = at_most-through is.key one other is.up_to at-most }

-- behind its end a span has no pieces
none-behind : (range : ℕ) (low : List ℕ) (splits : List (List ℕ)) (from : Option (List ℕ)) (to : List ℕ) → AreRising (low ∷ splits) → key_below low to ≡ false
    → pieces_from range (Some low) splits from (Some to) ≡ []
none-behind range low [] from to rising over =
    let start = later_start (Some low) from in
    no-piece range start (Some to) (empty-at low start (Some to) (later-from low from) (record { key = to; is = refl; up_to = over }))
none-behind range low (split ∷ splits) from to rising over =
    let start = later_start (Some low) from in
    let end = earlier_end (Some split) (Some to) in
    let here : piece range start end ≡ [] = no-piece range start end (empty-at low start end (later-from low from) (up-to-later to low end over (earlier-up-to-other (Some split) to))) in
    let behind : key_below split to ≡ false = at_most-through to low split over (below-once low split (first-rises low split splits rising)) in
    ap (λ ps. ps ++ pieces_from (range + 1) (Some split) splits from (Some to)) here ∙ none-behind (range + 1) split splits from to (rest-rises low (split ∷ splits) rising) behind

-- what lies in a range has its piece there alone
one-there : (range : ℕ) (low : Option (List ℕ)) (splits : List (List ℕ)) (at : ℕ) (from to : Option (List ℕ)) → AreRising splits → LiesAt range low splits at from to
    → pieces_from range low splits from to ≡ (at, Between from to) ∷ []
one-there range low [] at from to rising lies =
    ap (λ start. piece range start to) lies.1 ∙ one-piece range from to lies.2 ∙ ap (λ r. (r, Between from to) ∷ []) (sym lies.0)
one-there range low (split ∷ splits) at from to rising (inl here) =
    let end = end-up-to split to here.2 in
    let rest : pieces_from (range + 1) (Some split) splits from to ≡ [] =
    ap (pieces_from (range + 1) (Some split) splits from) end.is ∙ none-behind (range + 1) split splits from end.key rising end.up_to in
    let first : piece range (later_start low from) (earlier_end (Some split) to) ≡ (at, Between from to) ∷ [] =
    ap (λ start. piece range start (earlier_end (Some split) to)) here.1
    ∙ ap (piece range from) here.2
    ∙ one-piece range from to here.3
    ∙ ap (λ r. (r, Between from to) ∷ []) (sym here.0) in
    ap (λ ps. ps ++ pieces_from (range + 1) (Some split) splits from to) first ∙ ap (λ ps. (at, Between from to) ∷ ps) rest
one-there range low (split ∷ splits) at from to rising (inr there) =
    let begin = lies-from (range + 1) split splits at from to rising there in
    let start = later_start low from in
    let end = earlier_end (Some split) to in
    let later : IsFrom begin.key start = subst (λ f. IsFrom begin.key (later_start low f)) (sym begin.is) (later-from-other low begin.key) in
    let first : piece range start end ≡ [] =
    no-piece range start end (empty-at begin.key start end later (up-to-later split begin.key end begin.from (earlier-up-to split to))) in
    ap (λ ps. ps ++ pieces_from (range + 1) (Some split) splits from to) first ∙ one-there (range + 1) (Some split) splits at from to (rest-rises split splits rising) there

-- The piece has a piece in its range alone.
abbrev IsAlone : List (List ℕ) → ℕ × Span → Type 0
IsAlone splits p = pieces splits p.1 ≡ p ∷ []

alone : (splits : List (List ℕ)) (p : ℕ × Span) → AreRising splits → IsPiece 0 None splits p → IsAlone splits p
alone splits (at, One key) rising is = absurd is
alone splits (at, Between from to) rising is = one-there 0 None splits at from to rising is

all-alone : (splits : List (List ℕ)) (whole : Span) → AreRising splits → Each (IsAlone splits) (pieces splits whole)
all-alone splits (One key) rising = (refl, tt)
all-alone splits (Between from to) rising =
    each-weaker (IsPiece 0 None splits) (IsAlone splits) (λ p is. alone splits p rising is) (pieces_from 0 None splits from to) (are-pieces 0 None splits from to)

-- each piece lies in its one range
pub pieces-lie : (splits : List (List ℕ)) (whole : Span) (p : ℕ × Span) → AreRising splits → Contains (pieces splits whole) p → pieces splits p.1 ≡ p ∷ []
pieces-lie splits whole p rising is-there =
    All-contains (IsAlone splits) (pieces splits whole) p (All-from_recursion (IsAlone splits) (pieces splits whole) (all-alone splits whole rising)) is-there

-- The ranges of the pieces rise.
abbrev Climb : List (ℕ × Span) → Type 0
Climb [] = ⊤
Climb (p ∷ ps) = Each (λ q. p.0 < q.0) ps × Climb ps

-- from which range on a piece may lie
abbrev IsFromRange : ℕ → ℕ × Span → Type 0
IsFromRange range p = range ≤ p.0

from-range : (range : ℕ) (low : Option (List ℕ)) (splits : List (List ℕ)) (from to : Option (List ℕ)) → Each (IsFromRange range) (pieces_from range low splits from to)
from-range range low [] from to = each-piece (IsFromRange range) range (later_start low from) to (λ is. omega arith)
from-range range low (split ∷ splits) from to =
    let rest = pieces_from (range + 1) (Some split) splits from to in
    let end = earlier_end (Some split) to in
    each-append (IsFromRange range) (piece range (later_start low from) end) rest
    (each-piece (IsFromRange range) range (later_start low from) end (λ is. omega arith))
    (each-weaker (IsFromRange (range + 1)) (IsFromRange range) (λ p behind. omega arith) rest (from-range (range + 1) (Some split) splits from to))

climb-on : (range : ℕ) (from to : Option (List ℕ)) (ps : List (ℕ × Span)) → Each (IsFromRange (range + 1)) ps → Climb ps → Climb (piece range from to ++ ps)
climb-on range from to ps behind climb = by (is_empty from to)
  where
    by : (b : Bool) → Climb ((if b then [] else (range, Between from to) ∷ []) ++ ps)
    by true = climb
    by false = (each-weaker (IsFromRange (range + 1)) (λ q. range < q.0) (λ q far. omega arith) ps behind, climb)

all-climb : (range : ℕ) (low : Option (List ℕ)) (splits : List (List ℕ)) (from to : Option (List ℕ)) → Climb (pieces_from range low splits from to)
all-climb range low [] from to = by (is_empty (later_start low from) to)
  where
    by : (b : Bool) → Climb (if b then [] else (range, Between (later_start low from) to) ∷ [])
    by true = tt
    by false = (tt, tt)
all-climb range low (split ∷ splits) from to =
    climb-on range (later_start low from) (earlier_end (Some split) to) (pieces_from (range + 1) (Some split) splits from to) (from-range (range + 1) (Some split) splits from to)
    (all-climb (range + 1) (Some split) splits from to)

others : (splits : List (List ℕ)) (p : ℕ × Span) (ps : List (ℕ × Span)) → IsAlone splits p → Each (IsAlone splits) ps → Each (λ q. p.0 < q.0) ps → Each (λ q. p.1 ≡ q.1 → ⊥) ps
others splits p [] is alone behind = tt
others splits p (q ∷ qs) is alone behind = (differ, others splits p qs is alone.1 behind.1)
  where
    differ : p.1 ≡ q.1 → ⊥
    differ same =
        let one : p ∷ [] ≡ q ∷ [] = sym is ∙ ap (pieces splits) same ∙ alone.0 in
        let number : p.0 ≡ q.0 = first-of one in
        omega (arith, behind.0)
      where
        first-of : p ∷ [] ≡ q ∷ [] → p.0 ≡ q.0
        first-of one = let at : p ≡ q = cc in ap (λ (r : ℕ × Span). r.0) at

distinct : (splits : List (List ℕ)) (ps : List (ℕ × Span)) → Each (IsAlone splits) ps → Climb ps → AreDistinct (map (λ p. p.1) ps)
distinct splits [] alone climb = tt
distinct splits (p ∷ ps) alone climb =
    let other : Each (λ q. p.1 ≡ q.1 → ⊥) ps = others splits p ps alone.0 alone.1 climb.0 in
    (All-map (λ s. p.1 ≡ s → ⊥) (λ (q : ℕ × Span). q.1) ps (All-from_recursion (λ (q : ℕ × Span). p.1 ≡ q.1 → ⊥) ps other), distinct splits ps alone.1 climb.1)

-- the pieces of a span differ
pub pieces-differ : (splits : List (List ℕ)) (whole : Span) → AreRising splits → AreDistinct (map (λ p. p.1) (pieces splits whole))
pieces-differ splits whole rising = distinct splits (pieces splits whole) (all-alone splits whole rising) (climbs whole)
  where
    climbs : (whole : Span) → Climb (pieces splits whole)
    climbs (One key) = (tt, tt)
    climbs (Between from to) = all-climb 0 None splits from to

pub range-of-cons : (split : List ℕ) (splits : List (List ℕ)) (key : List ℕ) → range_of (split ∷ splits) key ≡ cond (key_at_most split key) 1 0 + range_of splits key
range-of-cons split splits key = sum_by-cons (λ split. cond (key_at_most split key) 1 0) split splits

pub one-more : (split : List ℕ) (splits : List (List ℕ)) (key : List ℕ) → key_below key split ≡ false → range_of (split ∷ splits) key ≡ 1 + range_of splits key
one-more split splits key from = range-of-cons split splits key ∙ ap (λ b. cond b 1 0 + range_of splits key) (at_most-is split key ∙ ap not from)

pub no-more : (split : List ℕ) (splits : List (List ℕ)) (key : List ℕ) → key_below key split ≡ true → range_of (split ∷ splits) key ≡ 0 + range_of splits key
no-more split splits key below = range-of-cons split splits key ∙ ap (λ b. cond b 1 0 + range_of splits key) (at_most-is split key ∙ ap not below)

-- a key below the first split lies in the first range
first-range : (split : List ℕ) (splits : List (List ℕ)) (key : List ℕ) → AreRising (split ∷ splits) → key_below key split ≡ true → range_of (split ∷ splits) key ≡ 0
first-range split [] key rising below = no-more split [] key below
first-range split (next ∷ splits) key rising below =
    let rest = first-range next splits key (rest-rises split (next ∷ splits) rising) (below-through key split next below (below-once split next (first-rises split next splits rising))) in
    let here = no-more split (next ∷ splits) key below in
    omega arith

-- What the range of a start is, counted from this one on.
abbrev counted : List (List ℕ) → Option (List ℕ) → ℕ
counted splits None = 0
counted splits (Some from) = range_of splits from

lies-where : (range : ℕ) (low : Option (List ℕ)) (splits : List (List ℕ)) (at : ℕ) (from to : Option (List ℕ)) → AreRising splits → LiesAt range low splits at from to → at ≡ range + counted splits from
lies-where range low [] at None to rising lies = omega (arith, lies.0)
lies-where range low [] at (Some from) to rising lies = omega (arith, lies.0)
lies-where range low (split ∷ splits) at None to rising (inl here) = omega (arith, here.0)
lies-where range low (split ∷ splits) at (Some from) to rising (inl here) =
    let end = end-up-to split to here.2 in
    let below : key_below from split ≡ true = below-through from end.key split (begins end here.3) end.up_to in
    omega (arith, here.0, first-range split splits from rising below)
  where
    begins : (end : IsUpTo split to) → is_empty (Some from) to ≡ false → key_below from end.key ≡ true
    begins end full = by (key_below from end.key) refl
      where
        by : (b : Bool) → key_below from end.key ≡ b → key_below from end.key ≡ true
        by true is = is
        by false is = let empty : is_empty (Some from) to ≡ true = ap (is_empty (Some from)) end.is ∙ ap not is in absurd cc
lies-where range low (split ∷ splits) at None to rising (inr there) =
    let start = lies-from (range + 1) split splits at None to rising there in
    let none : None ≡ Some start.key = start.is in
    absurd cc
lies-where range low (split ∷ splits) at (Some from) to rising (inr there) =
    let start = lies-from (range + 1) split splits at (Some from) to rising there in
    let same : from ≡ start.key = key-of start.key start.is in
    let above : key_below from split ≡ false = ap (λ k. key_below k split) same ∙ start.from in
    omega (arith, one-more split splits from above, lies-where (range + 1) (Some split) splits at (Some from) to (rest-rises split splits rising) there)
  where
    key-of : (key : List ℕ) → Some from ≡ Some key → from ≡ key
    key-of key is = cc

-- a span that lies in one range lies in that of its start
pub lies-at-start : (splits : List (List ℕ)) (span : Span) → AreRising splits → LiesInOne splits span → pieces splits span ≡ (range_of_start splits span, span) ∷ []
lies-at-start splits (One key) rising one = refl
lies-at-start splits (Between from to) rising one =
    let all : Each (IsPiece 0 None splits) ((one.0, Between from to) ∷ []) = subst (λ ps. Each (IsPiece 0 None splits) ps) one.1 (are-pieces 0 None splits from to) in
    one.1 ∙ ap (λ r. (r, Between from to) ∷ []) (lies-where 0 None splits one.0 from to rising all.0 ∙ by from)
  where
    by : (from : Option (List ℕ)) → 0 + counted splits from ≡ range_of_start splits (Between from to)
    by None = refl
    by (Some from) = omega arith
