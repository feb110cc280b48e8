-- A piece of a span that lies in one range lies in the range that it was cut for.
use Rattle.std.proofs.Common.{◌≡◌, ℕ, ◌+◌, Bool, true, false, if◌then◌else◌, inl, inr, List, [], ◌∷◌, Option, None, Some, Contains, sym, ap, subst, ◌∙◌}
use Rattle.std.proofs.lemmas.List.Elements.{Contains-append_cases, Contains-append_left, Contains-append_right}
use Rattle.pc_base.specs.declared.span.Span.{Span}
use Rattle.pc_base.specs.declared.span.Span.TheVariants.{One, Between}
use Rattle.pc_base.specs.Span.{is_empty}
use Rattle.pc_lists.proofs.Lists.{contains_cons, contains_nil}
use Rattle.pc_world.proofs.Pieces.{later-again, earlier-again}
use Rattle.pc_world.specs.RangeOf.{earlier_end, later_start, piece, pieces, pieces_from, range_of}

-- The piece has two ends, and is a piece of itself.
record IsOwnPiece (range : ℕ) (low : Option (List ℕ)) (splits : List (List ℕ)) (p : ℕ × Span) : Type 0 where
  from : Option (List ℕ)
  to : Option (List ℕ)
  ends : p.1 ≡ Between from to
  there : Contains (pieces_from range low splits from to) p

the-piece : (range : ℕ) (from to : Option (List ℕ)) (p : ℕ × Span) → Contains (piece range from to) p → p.1 ≡ Between from to
the-piece range from to p there = by (is_empty from to) there
  where
    by : (b : Bool) → Contains (if b then [] else (range, Between from to) ∷ []) p → p.1 ≡ Between from to
    by true there = absurd (contains_nil p there)
    by false there =
        elim (contains_cons (range, Between from to) [] p there) [
          | inl same ↦ ap (λ (q : ℕ × Span). q.1) (sym same)
          | inr later ↦ absurd (contains_nil p later)
        ]

own-piece : (range : ℕ) (low : Option (List ℕ)) (splits : List (List ℕ)) (from to : Option (List ℕ)) (p : ℕ × Span) → Contains (pieces_from range low splits from to) p → IsOwnPiece range low splits p
own-piece range low [] from to p there = record {
  from = later_start low from;
  to = to;
  ends = the-piece range (later_start low from) to p there;
  there = subst (λ f. Contains (piece range f to) p) (sym (later-again low from)) there;
}
own-piece range low (split ∷ splits) from to p there =
    elim (Contains-append_cases (piece range (later_start low from) (earlier_end (Some split) to)) (pieces_from (range + 1) (Some split) splits from to) p there) [
      | inl here ↦
          let f = later_start low from in
          let t = earlier_end (Some split) to in
          record {
            from = f;
            to = t;
            ends = the-piece range f t p here;
            there =
                Contains-append_left (piece range (later_start low f) (earlier_end (Some split) t)) (pieces_from (range + 1) (Some split) splits f t) p
                (subst (λ x. Contains (piece range x (earlier_end (Some split) t)) p) (sym (later-again low from))
                (subst (λ x. Contains (piece range f x) p) (sym (earlier-again (Some split) to)) here));
          }
      | inr later ↦
          let o = own-piece (range + 1) (Some split) splits from to p later in
          record {
            from = o.from;
            to = o.to;
            ends = o.ends;
            there = Contains-append_right (piece range (later_start low o.from) (earlier_end (Some split) o.to)) (pieces_from (range + 1) (Some split) splits o.from o.to) p o.there;
          }
    ]

alone : (range : ℕ) (span : Span) (ps : List (ℕ × Span)) (p : ℕ × Span) → ps ≡ (range, span) ∷ [] → Contains ps p → range ≡ p.0
alone range span ps p is there =
    elim (contains_cons (range, span) [] p (subst (λ qs. Contains qs p) is there)) [
      | inl same ↦ ap (λ (q : ℕ × Span). q.0) same
      | inr later ↦ absurd (contains_nil p later)
    ]

-- a piece that lies in one range lies in its own
pub piece_range : (splits : List (List ℕ)) (whole : Span) (p : ℕ × Span) → Contains (pieces splits whole) p → (range : ℕ) → pieces splits p.1 ≡ (range, p.1) ∷ [] → range ≡ p.0
piece_range splits (One key) p there range is =
    elim (contains_cons (range_of splits key, One key) [] p there) [
      | inl same ↦
          let span : p.1 ≡ One key = ap (λ (q : ℕ × Span). q.1) (sym same) in
          let both : (range_of splits key, One key) ∷ [] ≡ (range, p.1) ∷ [] = ap (pieces splits) (sym span) ∙ is in
          alone range p.1 ((range_of splits key, One key) ∷ []) p both there
      | inr later ↦ absurd (contains_nil p later)
    ]
piece_range splits (Between from to) p there range is =
    let o = own-piece 0 None splits from to p there in
    alone range p.1 (pieces splits p.1) p is (subst (λ span. Contains (pieces splits span) p) (sym o.ends) o.there)
