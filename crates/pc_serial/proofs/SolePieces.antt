-- A span that is its own one piece lies in the range of each of its keys, however the splits stand; and pieces that are each their own
-- one piece stand in key order.
use Rattle.std.proofs.Common.{◌≡◌, ℕ, ◌+◌, ◌<◌, ◌≤◌, Bool, true, false, cond, if◌then◌else◌, not, List, [], ◌∷◌, ◌++◌, Contains, Option, None, Some, refl, sym, ap, subst, ◌∙◌, inl, inr, arith}
use Rattle.std.proofs.lemmas.Bool.{and_from, and_parts}
use Rattle.std.specs.Cmp.Lexicographic.{slice_cmp}
use Rattle.std.specs.declared.cmp.Ordering.TheVariants.{Less}
use Rattle.std.specs.List.{AllByRecursion as Each}
use Rattle.std.specs.Ordering.{nat_cmp}
use Rattle.std.specs.Prelude.{⊤}
use Rattle.pc_base.specs.declared.span.Span.{Span}
use Rattle.pc_base.specs.declared.span.Span.TheVariants.{One, Between}
use Rattle.pc_base.specs.Span.{contains, is_before, is_empty, is_from, key_at_most, key_below}
use Rattle.pc_lists.proofs.Each.{each-append, each-back, each-both, each-contains, each-weaker}
use Rattle.pc_lists.proofs.Lists.{contains_cons, contains_nil}
use Rattle.pc_lists.proofs.Same.{same_key-is}
use Rattle.pc_serial.proofs.SpanPieces.{InTurn, IsBelow, cut-ends, each-piece, has-piece, holds-from, is-less, later-from, earlier-before, never}
use Rattle.pc_world.proofs.KeyOrder.{at_most-is, at_most-through}
use Rattle.pc_world.proofs.Pieces.{no-more, one-more, range-of-cons}
use Rattle.pc_world.specs.RangeOf.{earlier_end, later_start, piece, pieces, pieces_from, range_of}

module _ (key : List ℕ) where
  -- No piece has the key.
  abbrev HasNone : List (ℕ × Span) → Type 0
  HasNone ps = Each (λ p. contains p.1 key ≡ false) ps

  -- At most one piece has it.
  abbrev AtMostOne : List (ℕ × Span) → Type 0
  AtMostOne [] = ⊤
  AtMostOne (p ∷ ps) = (contains p.1 key ≡ true → HasNone ps) × AtMostOne ps

  one-behind : (xs ys : List (ℕ × Span)) → AtMostOne (xs ++ ys) → AtMostOne ys
  one-behind [] ys h = h
  one-behind (x ∷ xs) ys h = one-behind xs ys h.1

  one-then-none : (xs ys : List (ℕ × Span)) (p : ℕ × Span) → AtMostOne (xs ++ ys) → Contains xs p → contains p.1 key ≡ true → HasNone ys
  one-then-none [] ys p h c has = absurd (contains_nil p c)
  one-then-none (x ∷ xs) ys p h c has =
      elim (contains_cons x xs p c) [
        | inl same ↦ each-back (λ q. contains q.1 key ≡ false) xs ys (h.0 (subst (λ (q : ℕ × Span). contains q.1 key ≡ true) (sym same) has))
        | inr later ↦ one-then-none xs ys p h.1 later has
      ]

  -- where no piece behind a split has a key below that, no later split is at or below the key
  none-counts : (range : ℕ) (low : List ℕ) (splits : List (List ℕ)) (from to : Option (List ℕ)) → is_from from key ≡ true → is_before to key ≡ true → HasNone (pieces_from range (Some low) splits from to) → range_of splits key ≡ 0
  none-counts range low [] from to start end none = refl
  none-counts range low (split ∷ splits) from to start end none =
      let rest = pieces_from (range + 1) (Some split) splits from to in
      let back : HasNone rest = each-back (λ p. contains p.1 key ≡ false) (piece range (later_start (Some low) from) (earlier_end (Some split) to)) rest none in
      let on : range_of splits key ≡ 0 = none-counts (range + 1) split splits from to start end back in
      by on back (key_below key split) refl
    where
      by : range_of splits key ≡ 0 → HasNone (pieces_from (range + 1) (Some split) splits from to) → (b : Bool) → key_below key split ≡ b → range_of (split ∷ splits) key ≡ 0
      by on back true is = let here = no-more split splits key is in omega (arith, here, on)
      by on back false is =
          let h = holds-from (range + 1) (Some split) splits from to key (ap not is) start end in
          absurd (never (contains h.span key) h.inside (each-contains (λ (p : ℕ × Span). contains p.1 key ≡ false) (pieces_from (range + 1) (Some split) splits from to) (h.range, h.span) back h.there))

  -- The piece's range is that of the key, counted from this one on, where it has the key.
  abbrev IsItsRange : ℕ → List (List ℕ) → ℕ × Span → Type 0
  IsItsRange range splits p = contains p.1 key ≡ true → p.0 ≡ range + range_of splits key

  one-counts : (range : ℕ) (low : Option (List ℕ)) (splits : List (List ℕ)) (from to : Option (List ℕ)) → is_from low key ≡ true → is_from from key ≡ true → is_before to key ≡ true → AtMostOne (pieces_from range low splits from to)
      → Each (IsItsRange range splits) (pieces_from range low splits from to)
  one-counts range low [] from to above start end one = each-piece (IsItsRange range []) range (later_start low from) to (λ h. omega arith)
  one-counts range low (split ∷ splits) from to above start end one =
      by (λ is. one-counts (range + 1) (Some split) splits from to (ap not is) start end (one-behind (piece range (later_start low from) (earlier_end (Some split) to)) (pieces_from (range + 1) (Some split) splits from to) one))
      (key_below key split) refl
    where
      by : (key_below key split ≡ false → Each (IsItsRange (range + 1) splits) (pieces_from (range + 1) (Some split) splits from to)) → (b : Bool) → key_below key split ≡ b → Each (IsItsRange range (split ∷ splits)) (pieces_from range low (split ∷ splits) from to)
      by on true is =
          let first = piece range (later_start low from) (earlier_end (Some split) to) in
          let rest = pieces_from (range + 1) (Some split) splits from to in
          let begins = later-from low from key above start in
          let ends = earlier-before (Some split) to key is end in
          let there = has-piece range (later_start low from) (earlier_end (Some split) to) key begins ends in
          let none : HasNone rest = one-then-none first rest (range, Between (later_start low from) (earlier_end (Some split) to)) one there (and_from (is_from (later_start low from) key) (is_before (earlier_end (Some split) to) key) begins ends) in
          let here = no-more split splits key is in
          let later : range_of splits key ≡ 0 = none-counts (range + 1) split splits from to start end none in
          let zero : range_of (split ∷ splits) key ≡ 0 = omega (arith, here, later) in
          each-append (IsItsRange range (split ∷ splits)) first rest
          (each-piece (IsItsRange range (split ∷ splits)) range (later_start low from) (earlier_end (Some split) to) (λ h. omega (arith, zero)))
          (each-weaker (λ (p : ℕ × Span). contains p.1 key ≡ false) (IsItsRange range (split ∷ splits)) (λ p out h. absurd (never (contains p.1 key) h out)) rest none)
      by on false is =
          let first = piece range (later_start low from) (earlier_end (Some split) to) in
          let rest = pieces_from (range + 1) (Some split) splits from to in
          let more = one-more split splits key is in
          each-append (IsItsRange range (split ∷ splits)) first rest
          (each-piece (IsItsRange range (split ∷ splits)) range (later_start low from) (earlier_end (Some split) to) (λ h. absurd (never (key_below key split) (cut-ends (later_start low from) split to key h) is)))
          (each-weaker (IsItsRange (range + 1) splits) (IsItsRange range (split ∷ splits)) (λ p its h. let here = its h in omega (arith, here, more)) rest (on is))

-- a span that is its own one piece lies in the range of each of its keys
pub sole-range : (splits : List (List ℕ)) (span : Span) (range : ℕ) (key : List ℕ) → pieces splits span ≡ (range, span) ∷ [] → contains span key ≡ true → range ≡ range_of splits key
sole-range splits (One own) range key sole h =
    let both : (range_of splits own, One own) ≡ (range, One own) = cc sole in
    let same : range_of splits own ≡ range = ap (λ (p : ℕ × Span). p.0) both in
    sym same ∙ ap (range_of splits) (sym (same_key-is key own h))
sole-range splits (Between from to) range key sole h =
    let ends = and_parts (is_from from key) (is_before to key) h in
    let each = one-counts key 0 None splits from to refl ends.0 ends.1 (subst (AtMostOne key) (sym sole) ((λ has. tt), tt)) in
    let here : Each (IsItsRange key 0 splits) ((range, Between from to) ∷ []) = subst (Each (IsItsRange key 0 splits)) sole each in
    let is = here.0 h in
    omega (arith, is)

-- ---- their order

-- The ranges of the pieces rise.
abbrev RangesRise : List (ℕ × Span) → Type 0
RangesRise [] = ⊤
RangesRise (p ∷ ps) = Each (λ q. p.0 < q.0) ps × RangesRise ps

ranges-above : (range : ℕ) (low : Option (List ℕ)) (splits : List (List ℕ)) (from to : Option (List ℕ)) → Each (λ p. range ≤ p.0) (pieces_from range low splits from to)
ranges-above range low [] from to = each-piece (λ p. range ≤ p.0) range (later_start low from) to (omega arith)
ranges-above range low (split ∷ splits) from to =
    let rest = pieces_from (range + 1) (Some split) splits from to in
    each-append (λ p. range ≤ p.0) (piece range (later_start low from) (earlier_end (Some split) to)) rest
    (each-piece (λ p. range ≤ p.0) range (later_start low from) (earlier_end (Some split) to) (omega arith))
    (each-weaker (λ (p : ℕ × Span). range + 1 ≤ p.0) (λ p. range ≤ p.0) (λ p above. omega (arith, above)) rest (ranges-above (range + 1) (Some split) splits from to))

ranges-rise : (range : ℕ) (low : Option (List ℕ)) (splits : List (List ℕ)) (from to : Option (List ℕ)) → RangesRise (pieces_from range low splits from to)
ranges-rise range low [] from to = by (is_empty (later_start low from) to)
  where
    by : (b : Bool) → RangesRise (if b then [] else (range, Between (later_start low from) to) ∷ [])
    by true = tt
    by false = (tt, tt)
ranges-rise range low (split ∷ splits) from to =
    by (ranges-rise (range + 1) (Some split) splits from to) (is_empty (later_start low from) (earlier_end (Some split) to))
  where
    by : RangesRise (pieces_from (range + 1) (Some split) splits from to) → (b : Bool) → RangesRise ((if b then [] else (range, Between (later_start low from) (earlier_end (Some split) to)) ∷ []) ++ pieces_from (range + 1) (Some split) splits from to)
    by rest true = rest
    by rest false = (
      each-weaker (λ (p : ℕ × Span). range + 1 ≤ p.0) (λ p. range < p.0) (λ p above. omega (arith, above)) (pieces_from (range + 1) (Some split) splits from to) (ranges-above (range + 1) (Some split) splits from to),
      rest,
    )

-- What the split counts for a key's range.
abbrev counted : List ℕ → List ℕ → ℕ
counted split key = cond (key_at_most split key) 1 0

-- a key that is not above another has no greater range
range-low : (splits : List (List ℕ)) (low high : List ℕ) → key_below low high ≡ false → range_of splits high ≤ range_of splits low
range-low [] low high h = omega arith
range-low (split ∷ splits) low high h =
    let rest = range-low splits low high h in
    let one = range-of-cons split splits low in
    let other = range-of-cons split splits high in
    let step : counted split high ≤ counted split low = by (key_below high split) refl in
    omega (arith, rest, one, other, step)
  where
    by : (b : Bool) → key_below high split ≡ b → counted split high ≤ counted split low
    by true is = let none : counted split high ≡ 0 = ap (λ b. cond b 1 0) (at_most-is split high ∙ ap not is) in omega (arith, none)
    by false is =
        let here : counted split high ≡ 1 = ap (λ b. cond b 1 0) (at_most-is split high ∙ ap not is) in
        let there : counted split low ≡ 1 = ap (λ b. cond b 1 0) (at_most-is split low ∙ ap not (at_most-through split high low is h)) in
        omega (arith, here, there)

-- The piece is the one piece of its span.
abbrev pub IsSole : List (List ℕ) → ℕ × Span → Type 0
IsSole splits p = pieces splits p.1 ≡ (p.0, p.1) ∷ []

sole-below : (splits : List (List ℕ)) (p q : ℕ × Span) → IsSole splits p → IsSole splits q → p.0 < q.0 → IsBelow p.1 q.1
sole-below splits p q one other less low high here there = by (key_below low high) refl
  where
    by : (b : Bool) → key_below low high ≡ b → slice_cmp nat_cmp low high ≡ Less
    by true is = is-less (slice_cmp nat_cmp low high) is
    by false is =
        let first = sole-range splits p.1 p.0 low one here in
        let second = sole-range splits q.1 q.0 high other there in
        let not_above = range-low splits low high is in
        absurd (omega (arith, first, second, not_above, less))

in-turn : (splits : List (List ℕ)) (ps : List (ℕ × Span)) → Each (IsSole splits) ps → RangesRise ps → InTurn ps
in-turn splits [] sole rise = tt
in-turn splits (p ∷ ps) sole rise = (each-both (IsSole splits) (λ (q : ℕ × Span). p.0 < q.0) (λ q. IsBelow p.1 q.1) (λ q one less. sole-below splits p q sole.0 one less) ps sole.1 rise.0, in-turn splits ps sole.1 rise.1)

-- pieces that are each the one piece of their span stand in key order
pub sole-in-turn : (splits : List (List ℕ)) (whole : Span) → Each (IsSole splits) (pieces splits whole) → InTurn (pieces splits whole)
sole-in-turn splits (One key) sole = (tt, tt)
sole-in-turn splits (Between from to) sole = in-turn splits (pieces_from 0 None splits from to) sole (ranges-rise 0 None splits from to)
