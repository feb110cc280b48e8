-- The spans into which the ranges cut what a scan asks for.
use Rattle.std.specs.Prelude.{if◌then◌else◌, Option, None, Some, List, [], ◌∷◌, ◌++◌, map, ℕ}
use Rattle.pc_base.specs.declared.span.Span.{Span}
use Rattle.pc_base.specs.declared.span.Span.TheVariants.{One, Between}
use Rattle.pc_base.specs.Span.{is_empty}
use Rattle.pc_txn.specs.declared.txn.OpenTxn.{OpenTxn}
use Rattle.pc_txn.specs.Opened.{own_scan}
use Rattle.pc_wave.specs.declared.message.Message.{Message}
use Rattle.pc_wave.specs.Messages.{message_to_send}
use Rattle.pc_world.specs.RangeOf.{earlier_end, later_start}

-- The span between two ends, where a key may lie between them.
abbrev pub span_piece : Option (List ℕ) → Option (List ℕ) → List Span
span_piece from to = if is_empty from to then [] else Between from to ∷ []

-- The spans in which the ranges from one that begins at `low` on hold the keys between two ends.
abbrev pub spans_from : Option (List ℕ) → List (List ℕ) → Option (List ℕ) → Option (List ℕ) → List Span
spans_from low [] from to = span_piece (later_start low from) to
spans_from low (split ∷ splits) from to =
    span_piece (later_start low from) (earlier_end (Some split) to) ++ spans_from (Some split) splits from to

-- The spans into which the ranges cut a span, in key order.
abbrev pub spans_in : List (List ℕ) → Span → List Span
spans_in splits (One key) = One key ∷ []
spans_in splits (Between from to) = spans_from None splits from to

-- A scan of each span, to be sent.
abbrev pub scan_messages : OpenTxn → List Span → List Message
scan_messages x spans = map (λ span. message_to_send (own_scan x span)) spans
