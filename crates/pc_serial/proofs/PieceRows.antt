-- The rows of a span are those of its pieces in turn.
use Rattle.std.proofs.Common.{◌≡◌, ℕ, true, false, inl, inr, List, [], ◌∷◌, ◌++◌, Contains, Option, None, sym, ap, subst, ◌∙◌}
use Rattle.std.specs.Cmp.Lexicographic.{slice_cmp}
use Rattle.std.specs.declared.cmp.Ordering.TheVariants.{Less}
use Rattle.std.specs.List.{AllByRecursion as Each}
use Rattle.std.specs.Ordering.{is_eq, nat_cmp}
use Rattle.pc_base.specs.declared.span.Span.{Span}
use Rattle.pc_base.specs.Keyed.{at}
use Rattle.pc_base.specs.Span.{contains, same_key}
use Rattle.pc_lists.proofs.Each.{each-append, each-contains, each-weaker}
use Rattle.pc_lists.proofs.Lists.{contains_cons, contains_head, contains_nil, contains_tail}
use Rattle.pc_serial.proofs.InOrder.{rises-sorted}
use Rattle.pc_serial.proofs.Maps.{RisesByKey, at-append, at-append-none, at-below, at-none, rises-append, sorted-rises}
use Rattle.pc_serial.proofs.SpanPieces.{InTurn, IsBelow, pieces-are-parts, pieces-hold}
use Rattle.pc_serial.proofs.SpanRows.{LieIn, Show}
use Rattle.pc_world.specs.RangeOf.{pieces}

-- The rows are those of the pieces in turn, each piece's as the relation says.
abbrev pub AreOfPieces : (ℕ × Span → List (List ℕ × List ℕ) → Type 0) → List (ℕ × Span) → List (List ℕ × List ℕ) → Type 0
AreOfPieces Of [] rows = rows ≡ []
AreOfPieces Of (p ∷ ps) rows = (found later : List (List ℕ × List ℕ)) × Of p found × (rows ≡ found ++ later) × AreOfPieces Of ps later

-- A piece that has the key, and the rows found for it.
pub record FoundFor (Of : ℕ × Span → List (List ℕ × List ℕ) → Type 0) (ps : List (ℕ × Span)) (rows : List (List ℕ × List ℕ)) (key : List ℕ) : Type 0 where
  pub range : ℕ
  pub span : Span
  pub there : Contains ps (range, span)
  pub inside : contains span key ≡ true
  pub found : List (List ℕ × List ℕ)
  pub is_of : Of (range, span) found
  pub same : at same_key key rows ≡ at same_key key found

module _ (Of : ℕ × Span → List (List ℕ × List ℕ) → Type 0) (lie : (p : ℕ × Span) (found : List (List ℕ × List ℕ)) → Of p found → LieIn p.1 found) where
  -- what is so of each key of each piece is so of each row's
  rows-in : (P : List ℕ → Type 0) (ps : List (ℕ × Span)) (rows : List (List ℕ × List ℕ)) → Each (λ p. (key : List ℕ) → contains p.1 key ≡ true → P key) ps → AreOfPieces Of ps rows → Each (λ row. P row.0) rows
  rows-in P [] rows a are = subst (λ xs. Each (λ row. P row.0) xs) (sym are) tt
  rows-in P (p ∷ ps) rows a are =
      subst (λ xs. Each (λ row. P row.0) xs) (sym are.3)
      (each-append (λ (row : List ℕ × List ℕ). P row.0) are.0 are.1
      (each-weaker (λ (row : List ℕ × List ℕ). contains p.1 row.0 ≡ true) (λ row. P row.0) (λ row h. a.0 row.0 h) are.0 (lie p are.0 are.2).inside)
      (rows-in P ps are.1 a.1 are.4))

  -- the rows of the pieces behind a key are above it
  rows-above : (p : ℕ × Span) (ps : List (ℕ × Span)) (later : List (List ℕ × List ℕ)) (key : List ℕ) → Each (λ q. IsBelow p.1 q.1) ps → AreOfPieces Of ps later → contains p.1 key ≡ true
      → Each (λ row. slice_cmp nat_cmp key row.0 ≡ Less) later
  rows-above p ps later key below are h =
      rows-in (λ k. slice_cmp nat_cmp key k ≡ Less) ps later
      (each-weaker (λ (q : ℕ × Span). IsBelow p.1 q.1) (λ q. (high : List ℕ) → contains q.1 high ≡ true → slice_cmp nat_cmp key high ≡ Less) (λ q b high k. b key high h k) ps below) are

  -- rows of pieces in key order rise
  rows-rise : (ps : List (ℕ × Span)) (rows : List (List ℕ × List ℕ)) → InTurn ps → AreOfPieces Of ps rows → RisesByKey rows
  rows-rise [] rows turn are = subst RisesByKey (sym are) tt
  rows-rise (p ∷ ps) rows turn are =
      let here = lie p are.0 are.2 in
      subst RisesByKey (sym are.3)
      (rises-append are.0 are.1 (sorted-rises are.0 here.sorted) (rows-rise ps are.1 turn.1 are.4)
      (each-weaker (λ (row : List ℕ × List ℕ). contains p.1 row.0 ≡ true) (λ row. Each (λ other. slice_cmp nat_cmp row.0 other.0 ≡ Less) are.1)
      (λ row h. rows-above p ps are.1 row.0 turn.0 are.4 h) are.0 here.inside))

  -- under a key the rows have what those of its piece have
  rows-of : (ps : List (ℕ × Span)) (rows : List (List ℕ × List ℕ)) (range : ℕ) (span : Span) (key : List ℕ) → InTurn ps → AreOfPieces Of ps rows → Contains ps (range, span) → contains span key ≡ true
      → FoundFor Of ps rows key
  rows-of [] rows range span key turn are c h = absurd (contains_nil (range, span) c)
  rows-of (p ∷ ps) rows range span key turn are c h =
      let whole = ap (λ xs. at same_key key xs) are.3 in
      elim (contains_cons p ps (range, span) c) [
        | inl same ↦
            let inside : contains p.1 key ≡ true = ap (λ (q : ℕ × Span). contains q.1 key) same ∙ h in
            record {
              range = p.0;
              span = p.1;
              there = contains_head p ps;
              inside = inside;
              found = are.0;
              is_of = are.2;
              same = whole ∙ at-append-none key are.0 are.1 (at-below key are.1 (rows-above p ps are.1 key turn.0 are.4 inside));
            }
        | inr more ↦
            let below : IsBelow p.1 span = each-contains (λ (q : ℕ × Span). IsBelow p.1 q.1) ps (range, span) turn.0 more in
            let none : at same_key key are.0 ≡ None =
            at-none key are.0 (each-weaker (λ (row : List ℕ × List ℕ). contains p.1 row.0 ≡ true) (λ row. same_key row.0 key ≡ false) (λ row k. ap is_eq (below row.0 key k h)) are.0 (lie p are.0 are.2).inside) in
            let later = rows-of ps are.1 range span key turn.1 are.4 more h in
            record {
              range = later.range;
              span = later.span;
              there = contains_tail p ps (later.range, later.span) later.there;
              inside = later.inside;
              found = later.found;
              is_of = later.is_of;
              same = whole ∙ (at-append key are.0 are.1 none ∙ later.same);
            }
      ]

  module _ (splits : List (List ℕ)) (whole : Span) (rows : List (List ℕ × List ℕ)) (turn : InTurn (pieces splits whole)) (are : AreOfPieces Of (pieces splits whole) rows) where
    -- the rows lie in the span, in order
    pub pieces-lie-in : LieIn whole rows
    pieces-lie-in = record {
      sorted = rises-sorted (slice_cmp nat_cmp) rows (rows-rise (pieces splits whole) rows turn are);
      inside = rows-in (λ key. contains whole key ≡ true) (pieces splits whole) rows (pieces-are-parts splits whole) are;
    }

    -- and have under each of its keys what those of the piece in the key's range have
    pub pieces-found : (key : List ℕ) → contains whole key ≡ true → FoundFor Of (pieces splits whole) rows key
    pieces-found key h =
        let holds = pieces-hold splits whole key h in
        rows-of (pieces splits whole) rows holds.range holds.span key turn are holds.there holds.inside

-- where the rows of each piece show what is looked up in it, so do those of the span
pub pieces-show : (splits : List (List ℕ)) (whole : Span) (look : List ℕ → Option (List ℕ)) (rows : List (List ℕ × List ℕ)) → InTurn (pieces splits whole)
    → AreOfPieces (λ p found. Show p.1 look found) (pieces splits whole) rows → Show whole look rows
pieces-show splits whole look rows turn are = record {
  lie = pieces-lie-in (λ p found. Show p.1 look found) (λ p found shown. shown.lie) splits whole rows turn are;
  has = λ key h.
      let f = pieces-found (λ p found. Show p.1 look found) (λ p found shown. shown.lie) splits whole rows turn are key h in
      let shown : Show f.span look f.found = f.is_of in
      f.same ∙ shown.has key f.inside;
}
