-- The pieces of a span have its keys alone, and each of its keys is in one of them.
use Rattle.std.proofs.Common.{◌≡◌, ℕ, ◌+◌, Bool, true, false, if◌then◌else◌, not, List, [], ◌∷◌, ◌++◌, Contains, Option, None, Some, refl, sym, ap, subst, ◌∙◌}
use Rattle.std.proofs.lemmas.Bool.{and_from, and_parts, not-true}
use Rattle.std.proofs.lemmas.List.Elements.{Contains-append_left, Contains-append_right}
use Rattle.std.specs.Cmp.Lexicographic.{slice_cmp}
use Rattle.std.specs.declared.cmp.Ordering.{Ordering}
use Rattle.std.specs.declared.cmp.Ordering.TheVariants.{Less, Equal, Greater}
use Rattle.std.specs.List.{AllByRecursion as Each}
use Rattle.std.specs.Ordering.{is_lt, nat_cmp}
use Rattle.pc_base.specs.declared.span.Span.{Span}
use Rattle.pc_base.specs.declared.span.Span.TheVariants.{One, Between}
use Rattle.pc_base.specs.Span.{contains, is_before, is_empty, is_from, key_below}
use Rattle.pc_lists.proofs.Each.{each-append}
use Rattle.pc_lists.proofs.Lists.{contains_head}
use Rattle.pc_world.proofs.KeyOrder.{at_most-through, below-once, below-through}
use Rattle.pc_world.specs.RangeOf.{earlier_end, later_start, piece, pieces, pieces_from, range_of}

-- ---- order

pub is-less : (o : Ordering) → is_lt o ≡ true → o ≡ Less
is-less Less h = refl
is-less Equal h = absurd cc
is-less Greater h = absurd cc

pub never : (b : Bool) → b ≡ true → b ≡ false → ⊥
never b h k = let both : true ≡ false = sym h ∙ k in cc

-- a key that is not above one that is below another is below that
below-from : (one middle other : List ℕ) → key_below middle one ≡ false → key_below middle other ≡ true → key_below one other ≡ true
below-from one middle other low high = by (key_below one other) refl
  where
    by : (b : Bool) → key_below one other ≡ b → key_below one other ≡ true
    by true is = is
    by false is = absurd (never (key_below middle one) (below-through middle other one high is) low)

-- ---- the later of two starts, and the earlier of two ends

from-later : (low from : Option (List ℕ)) (key : List ℕ) → is_from (later_start low from) key ≡ true → (is_from low key ≡ true) × (is_from from key ≡ true)
from-later None from key h = (refl, h)
from-later (Some one) None key h = (h, refl)
from-later (Some one) (Some other) key h = by (key_below one other) refl h
  where
    by : (b : Bool) → key_below one other ≡ b → is_from (if b then Some other else Some one) key ≡ true → (not (key_below key one) ≡ true) × (not (key_below key other) ≡ true)
    by true is h =
        let above : key_below key other ≡ false = not-true (key_below key other) h in
        (ap not (at_most-through one other key (below-once one other is) above), h)
    by false is h =
        let above : key_below key one ≡ false = not-true (key_below key one) h in
        (h, ap not (at_most-through other one key is above))

pub later-from : (low from : Option (List ℕ)) (key : List ℕ) → is_from low key ≡ true → is_from from key ≡ true → is_from (later_start low from) key ≡ true
later-from None from key h k = k
later-from (Some one) None key h k = h
later-from (Some one) (Some other) key h k = by (key_below one other)
  where
    by : (b : Bool) → is_from (if b then Some other else Some one) key ≡ true
    by true = k
    by false = h

before-earlier : (high to : Option (List ℕ)) (key : List ℕ) → is_before (earlier_end high to) key ≡ true → (is_before high key ≡ true) × (is_before to key ≡ true)
before-earlier None to key h = (refl, h)
before-earlier (Some one) None key h = (h, refl)
before-earlier (Some one) (Some other) key h = by (key_below other one) refl h
  where
    by : (b : Bool) → key_below other one ≡ b → is_before (if b then Some other else Some one) key ≡ true → (key_below key one ≡ true) × (key_below key other ≡ true)
    by true is h = (below-through key other one h (below-once other one is), h)
    by false is h = (h, below-through key one other h is)

pub earlier-before : (high to : Option (List ℕ)) (key : List ℕ) → is_before high key ≡ true → is_before to key ≡ true → is_before (earlier_end high to) key ≡ true
earlier-before None to key h k = k
earlier-before (Some one) None key h k = h
earlier-before (Some one) (Some other) key h k = by (key_below other one)
  where
    by : (b : Bool) → is_before (if b then Some other else Some one) key ≡ true
    by true = k
    by false = h

-- ---- one piece

pub each-piece : (P : ℕ × Span → Type 0) (range : ℕ) (from to : Option (List ℕ)) → P (range, Between from to) → Each P (piece range from to)
each-piece P range from to here = by (is_empty from to)
  where
    by : (b : Bool) → Each P (if b then [] else (range, Between from to) ∷ [])
    by true = tt
    by false = (here, tt)

-- a span that has a key is not empty
not-empty : (from to : Option (List ℕ)) (key : List ℕ) → is_from from key ≡ true → is_before to key ≡ true → is_empty from to ≡ false
not-empty None to key h k = refl
not-empty (Some from) None key h k = refl
not-empty (Some from) (Some to) key h k = ap not (below-from from key to (not-true (key_below key from) h) k)

pub has-piece : (range : ℕ) (from to : Option (List ℕ)) (key : List ℕ) → is_from from key ≡ true → is_before to key ≡ true → Contains (piece range from to) (range, Between from to)
has-piece range from to key h k =
    let here : ℕ × Span = (range, Between from to) in
    subst (λ b. Contains (if b then [] else here ∷ []) here) (sym (not-empty from to key h k)) (contains_head here [])

-- ---- the pieces of a span with two ends

-- The piece has keys of the span alone.
abbrev pub IsPart : Span → ℕ × Span → Type 0
IsPart whole p = (key : List ℕ) → contains p.1 key ≡ true → contains whole key ≡ true

-- Each key of the first span is below each of the other.
abbrev pub IsBelow : Span → Span → Type 0
IsBelow one other = (low high : List ℕ) → contains one low ≡ true → contains other high ≡ true → slice_cmp nat_cmp low high ≡ Less

-- The pieces stand in key order.
abbrev pub InTurn : List (ℕ × Span) → Type 0
InTurn [] = Unit {0}
InTurn (p ∷ ps) = Each (λ q. IsBelow p.1 q.1) ps × InTurn ps

cut-part : (range : ℕ) (low high from to : Option (List ℕ)) → IsPart (Between from to) (range, Between (later_start low from) (earlier_end high to))
cut-part range low high from to key h =
    let ends = and_parts (is_from (later_start low from) key) (is_before (earlier_end high to) key) h in
    and_from (is_from from key) (is_before to key) (from-later low from key ends.0).1 (before-earlier high to key ends.1).1

parts-from : (range : ℕ) (low : Option (List ℕ)) (splits : List (List ℕ)) (from to : Option (List ℕ)) → Each (IsPart (Between from to)) (pieces_from range low splits from to)
parts-from range low [] from to = each-piece (IsPart (Between from to)) range (later_start low from) to (cut-part range low None from to)
parts-from range low (split ∷ splits) from to =
    each-append (IsPart (Between from to)) (piece range (later_start low from) (earlier_end (Some split) to)) (pieces_from (range + 1) (Some split) splits from to)
    (each-piece (IsPart (Between from to)) range (later_start low from) (earlier_end (Some split) to) (cut-part range low (Some split) from to))
    (parts-from (range + 1) (Some split) splits from to)

-- a key of a piece that is cut at a split is below it
pub cut-ends : (start : Option (List ℕ)) (split : List ℕ) (to : Option (List ℕ)) (key : List ℕ) → contains (Between start (earlier_end (Some split) to)) key ≡ true → key_below key split ≡ true
cut-ends start split to key h =
    let ends = and_parts (is_from start key) (is_before (earlier_end (Some split) to) key) h in
    (before-earlier (Some split) to key ends.1).0

-- ---- the ranges of the pieces

-- ---- each key of the span is in a piece

-- A piece that has the key.
pub record Holds (ps : List (ℕ × Span)) (key : List ℕ) : Type 0 where
  pub range : ℕ
  pub span : Span
  pub there : Contains ps (range, span)
  pub inside : contains span key ≡ true

pub holds-from : (range : ℕ) (low : Option (List ℕ)) (splits : List (List ℕ)) (from to : Option (List ℕ)) (key : List ℕ) → is_from low key ≡ true → is_from from key ≡ true → is_before to key ≡ true
    → Holds (pieces_from range low splits from to) key
holds-from range low [] from to key above start end =
    let begins = later-from low from key above start in
    record { range = range; span = Between (later_start low from) to; there = has-piece range (later_start low from) to key begins end; inside = and_from (is_from (later_start low from) key) (is_before to key) begins end }
holds-from range low (split ∷ splits) from to key above start end =
    let first = piece range (later_start low from) (earlier_end (Some split) to) in
    let rest = pieces_from (range + 1) (Some split) splits from to in
    let later : key_below key split ≡ false → Holds (first ++ rest) key = λ is.
    let h = holds-from (range + 1) (Some split) splits from to key (ap not is) start end in
    record { range = h.range; span = h.span; there = Contains-append_right first rest (h.range, h.span) h.there; inside = h.inside } in
    let by : (b : Bool) → key_below key split ≡ b → Holds (first ++ rest) key = elim [
      | true ↦ λ is.
          let begins = later-from low from key above start in
          let ends = earlier-before (Some split) to key is end in
          record {
            range = range;
            span = Between (later_start low from) (earlier_end (Some split) to);
            there = Contains-append_left first rest (range, Between (later_start low from) (earlier_end (Some split) to)) (has-piece range (later_start low from) (earlier_end (Some split) to) key begins ends);
            inside = and_from (is_from (later_start low from) key) (is_before (earlier_end (Some split) to) key) begins ends;
          }
      | false ↦ λ is. later is
    ] in by (key_below key split) refl

-- ---- the pieces of a span

-- each piece has keys of the span alone, however the splits stand
pub pieces-are-parts : (splits : List (List ℕ)) (whole : Span) → Each (IsPart whole) (pieces splits whole)
pieces-are-parts splits (One key) = (λ own h. h, tt)
pieces-are-parts splits (Between from to) = parts-from 0 None splits from to

-- each key of the span is in a piece, however the splits stand
pub pieces-hold : (splits : List (List ℕ)) (whole : Span) (key : List ℕ) → contains whole key ≡ true → Holds (pieces splits whole) key
pieces-hold splits (One own) key h = record { range = range_of splits own; span = One own; there = contains_head (range_of splits own, One own) []; inside = h }
pieces-hold splits (Between from to) key h =
    let ends = and_parts (is_from from key) (is_before to key) h in
    holds-from 0 None splits from to key refl ends.0 ends.1
