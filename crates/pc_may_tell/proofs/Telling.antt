-- Rows as they are told, one after the other.
use Rattle.std.proofs.Common.{◌≡◌, ◌↔◌, ◌<◌, ◌≤◌, ◌+◌, ◌++◌, ℕ, List, ◌∷◌, Option, None, Some, drop, length, map, slice_index_or, sym, ap, ◌∙◌}
use Rattle.pc_may_tell.proofs.Counted.{drop_end, drop_next}
use Rattle.pc_proto.specs.declared.reply.Origin.{Origin}
use Rattle.pc_world.specs.Tell.Data.{told_row}

-- A row.
abbrev pub Row : Type 0
Row = List ℕ × Origin × List ℕ

some-same : (one two : List Row) → Some one ≡ Some two → one ≡ two
some-same one two e = cc

module _ (rows rest found : List Row) (n : ℕ) where
  -- What goes on after the rows found is what goes on after those that are left.
  abbrev pub GoesOnAs : Type 0
  GoesOnAs = (later : List Row) → (rows ≡ map told_row found ++ later) ↔ (rest ≡ map told_row (drop n found) ++ later)

  module _ (row : Row) (low : n < length found) (is : row ≡ slice_index_or found n row) (so_far : GoesOnAs)
      (o : Option (List Row)) (first : (later : List Row) → (o ≡ Some later) ↔ (rest ≡ told_row row ∷ later)) where
    here : (later : List Row) → map told_row (drop n found) ++ later ≡ told_row row ∷ (map told_row (drop (n + 1) found) ++ later)
    here later = ap (λ (xs : List Row). map told_row xs ++ later) (drop_next n found row low is)

    pub next_told : (left : List Row) → o ≡ Some left → (later : List Row) → (rows ≡ map told_row found ++ later) ↔ (left ≡ map told_row (drop (n + 1) found) ++ later)
    next_told left at later = (
      λ e. some-same left (map told_row (drop (n + 1) found) ++ later) (sym at ∙ (first (map told_row (drop (n + 1) found) ++ later)).1 ((so_far later).0 e ∙ here later)),
      λ e. (so_far later).1 ((first left).0 at ∙ ap (λ (xs : List Row). told_row row ∷ xs) e ∙ sym (here later)),
    )

    -- Nothing.
    abbrev nothing : Option (List Row)
    nothing = None

    pub none_told : o ≡ nothing → (later : List Row) → (nothing ≡ Some later) ↔ (rows ≡ map told_row found ++ later)
    none_told none later = (
      λ e. absurd (cc e),
      λ e. let at = (first (map told_row (drop (n + 1) found) ++ later)).1 ((so_far later).0 e ∙ here later) in absurd (cc (none, at)),
    )

  pub all_told : length found ≤ n → GoesOnAs → (later : List Row) → (Some rest ≡ Some later) ↔ (rows ≡ map told_row found ++ later)
  all_told low so_far later =
      let end : map told_row (drop n found) ++ later ≡ later = ap (λ (xs : List Row). map told_row xs ++ later) (drop_end n found low) in
      (λ e. (so_far later).1 (some-same rest later e ∙ sym end), λ e. ap Some ((so_far later).0 e ∙ end))
