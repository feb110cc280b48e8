-- Which range holds a key or a span. Own profile: ranges are fixed, and cut at the split keys.
use Rattle.std.specs.Prelude.{◌≡◌, ℕ, ◌+◌, ◌≤◌, if◌then◌else◌, Option, None, Some, List, [], ◌∷◌, ◌++◌, length, count_by, All, ⊤}
use Rattle.pc_base.specs.declared.span.Span.{Span}
use Rattle.pc_base.specs.declared.span.Span.TheVariants.{One, Between}
use Rattle.pc_base.specs.Span.{is_empty, key_at_most, key_below}
use Rattle.pc_proto.specs.declared.request.Request.{Request}
use Rattle.pc_proto.specs.declared.request.Request.TheVariants as requests

-- How many split keys are not above the key.
abbrev pub range_of : List (List ℕ) → List ℕ → ℕ
range_of splits key = count_by (λ split. key_at_most split key) splits

-- The later of two starts; an open one is before every key.
abbrev pub later_start : Option (List ℕ) → Option (List ℕ) → Option (List ℕ)
later_start None other = other
later_start (Some one) None = Some one
later_start (Some one) (Some other) = if key_below one other then Some other else Some one

-- The earlier of two ends; an open one is behind every key.
abbrev pub earlier_end : Option (List ℕ) → Option (List ℕ) → Option (List ℕ)
earlier_end None other = other
earlier_end (Some one) None = Some one
earlier_end (Some one) (Some other) = if key_below other one then Some other else Some one

-- A part of a span in one range, if there is one.
abbrev pub piece : ℕ → Option (List ℕ) → Option (List ℕ) → List (ℕ × Span)
piece range from to = if is_empty from to then [] else (range, Between from to) ∷ []

-- The parts of the keys from `from` to `to` in the ranges from this one on, which begins at `low`.
abbrev pub pieces_from : ℕ → Option (List ℕ) → List (List ℕ) → Option (List ℕ) → Option (List ℕ) → List (ℕ × Span)
pieces_from range low [] from to = piece range (later_start low from) to
pieces_from range low (split ∷ splits) from to =
    piece range (later_start low from) (earlier_end (Some split) to) ++ pieces_from (range + 1) (Some split) splits from to

-- A span, cut at the ends of the ranges: each range that it meets, in key order, with the part there.
abbrev pub pieces : List (List ℕ) → Span → List (ℕ × Span)
pieces splits (One key) = (range_of splits key, One key) ∷ []
pieces splits (Between from to) = pieces_from 0 None splits from to

-- The request goes to this range: that of its key, of its transaction's anchor, or the one in which its span lies; a listing
-- of records may go to any range that is there.
abbrev pub GoesTo : List (List ℕ) → Request → ℕ → Type 0
GoesTo splits (requests.Get id epoch seq ts key) range = range ≡ range_of splits key
GoesTo splits (requests.Scan id epoch seq ts span) range = pieces splits span ≡ (range, span) ∷ []
GoesTo splits (requests.Put meta seq ts key value) range = range ≡ range_of splits key
GoesTo splits (requests.Refresh id from to span) range = pieces splits span ≡ (range, span) ∷ []
GoesTo splits (requests.Beat meta ts now) range = range ≡ range_of splits meta.anchor
GoesTo splits (requests.Stage meta ts now writes locks) range = range ≡ range_of splits meta.anchor
GoesTo splits (requests.Commit meta ts locks) range = range ≡ range_of splits meta.anchor
GoesTo splits (requests.Abort meta why locks) range = range ≡ range_of splits meta.anchor
GoesTo splits (requests.Push holder by level now goal) range = range ≡ range_of splits holder.anchor
GoesTo splits (requests.Query id epoch seq ts key by) range = range ≡ range_of splits key
GoesTo splits (requests.Recover id epoch ts anchor finding) range = range ≡ range_of splits anchor
GoesTo splits (requests.Resolve id key fate) range = range ≡ range_of splits key
GoesTo splits (requests.Remove id anchor) range = range ≡ range_of splits anchor
GoesTo splits requests.Records range = range ≤ length splits

-- The span lies in one range.
abbrev pub LiesInOne : List (List ℕ) → Span → Type 0
LiesInOne splits span = (range : ℕ) × (pieces splits span ≡ (range, span) ∷ [])

-- The range of the span's start.
abbrev pub range_of_start : List (List ℕ) → Span → ℕ
range_of_start splits (One key) = range_of splits key
range_of_start splits (Between None to) = 0
range_of_start splits (Between (Some from) to) = range_of splits from

-- If the request names a span, that lies in one range.
abbrev pub IsForOne : List (List ℕ) → Request → Type 0
IsForOne splits (requests.Scan id epoch seq ts span) = LiesInOne splits span
IsForOne splits (requests.Refresh id from to span) = LiesInOne splits span
IsForOne splits _ = ⊤

-- No two of the spans are the same.
abbrev pub AreDistinct : List Span → Type 0
AreDistinct [] = ⊤
AreDistinct (span ∷ spans) = All (λ other. span ≡ other → ⊥) spans × AreDistinct spans
