-- The parts of a span have no key that the span has not.
use Rattle.std.proofs.Common.{◌≡◌, ℕ, ◌+◌, Bool, true, false, cond, not, List, [], ◌∷◌, Option, Some, None, refl, sym, ap, ◌∙◌, All}
use Rattle.std.proofs.lemmas.Bool.{and_from, and_parts}
use Rattle.std.proofs.lemmas.List.Elements.{All-append, All-cons, All-nil}
use Rattle.pc_base.specs.declared.span.Span.{Span}
use Rattle.pc_base.specs.declared.span.Span.TheVariants.{One, Between}
use Rattle.pc_base.specs.Span.{contains, is_before, is_empty, is_from, key_below}
use Rattle.pc_world.proofs.KeyOrder.{below-through}
use Rattle.pc_world.specs.RangeOf.{earlier_end, later_start, piece, pieces, pieces_from}

later_from : (low from : Option (List ℕ)) (key : List ℕ) → is_from (later_start low from) key ≡ true → is_from from key ≡ true
later_from None from key is = is
later_from (Some one) None key is = refl
later_from (Some one) (Some other) key is = by (key_below one other) refl is (key_below key other) refl
  where
    by : (b : Bool) → key_below one other ≡ b → is_from (cond b (Some other) (Some one)) key ≡ true → (c : Bool) → key_below key other ≡ c → not c ≡ true
    by true e is c f = ap not (sym f) ∙ is
    by false e is false f = refl
    by false e is true f =
        let g : key_below key one ≡ true = below-through key other one f e in
        let h : false ≡ true = sym (ap not g) ∙ is in
        absurd cc

earlier_before : (low to : Option (List ℕ)) (key : List ℕ) → is_before (earlier_end low to) key ≡ true → is_before to key ≡ true
earlier_before None to key is = is
earlier_before (Some one) None key is = refl
earlier_before (Some one) (Some other) key is = by (key_below other one) refl is
  where
    by : (b : Bool) → key_below other one ≡ b → is_before (cond b (Some other) (Some one)) key ≡ true → key_below key other ≡ true
    by true e is = is
    by false e is = below-through key one other is e

module _ (from to : Option (List ℕ)) (key : List ℕ) where
  -- The part has the key only where the span has it.
  abbrev IsInside : ℕ × Span → Type 0
  IsInside p = contains p.1 key ≡ true → contains (Between from to) key ≡ true

  piece_inside : (r : ℕ) (start end : Option (List ℕ)) → (is_from start key ≡ true → is_from from key ≡ true) → (is_before end key ≡ true → is_before to key ≡ true) → All IsInside (piece r start end)
  piece_inside r start end first last = by (is_empty start end)
    where
      by : (b : Bool) → All IsInside (cond b [] ((r, Between start end) ∷ []))
      by true = All-nil IsInside
      by false = All-cons IsInside (r, Between start end) [] (λ has. let parts = and_parts (is_from start key) (is_before end key) has in and_from (is_from from key) (is_before to key) (first parts.0) (last parts.1)) (All-nil IsInside)

  from_inside : (r : ℕ) (low : Option (List ℕ)) (splits : List (List ℕ)) → All IsInside (pieces_from r low splits from to)
  from_inside r low [] = piece_inside r (later_start low from) to (later_from low from key) (λ is. is)
  from_inside r low (split ∷ splits) =
      All-append IsInside (piece r (later_start low from) (earlier_end (Some split) to)) (pieces_from (r + 1) (Some split) splits from to)
      (piece_inside r (later_start low from) (earlier_end (Some split) to) (later_from low from key) (earlier_before (Some split) to key)) (from_inside (r + 1) (Some split) splits)

-- each part has a key only where the whole has it
pub pieces_inside : (splits : List (List ℕ)) (whole : Span) (key : List ℕ) → All (λ p. contains p.1 key ≡ true → contains whole key ≡ true) (pieces splits whole)
pieces_inside splits (One one) key = All-cons (λ (p : ℕ × Span). contains p.1 key ≡ true → contains (One one) key ≡ true) _ [] (λ is. is) (All-nil (λ (p : ℕ × Span). contains p.1 key ≡ true → contains (One one) key ≡ true))
pieces_inside splits (Between from to) key = from_inside from to key 0 None splits
