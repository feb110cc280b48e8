-- Scan: the first key at which another's intent stands at or below the read's timestamp is a conflict; else the range is read
-- at that timestamp, and the rows are what a get would find at each key of the span, in key order. SIGMOD 2020 paper,
-- section 3.3.
use Rattle.std.specs.Prelude.{ℕ, Option, None, Some, List, ◌++◌, filter, map}
use Rattle.std.specs.List.{filter_map}
use Rattle.std.specs.Option.{option_map}
use Rattle.std.specs.Ordering.{nat_cmp}
use Rattle.std.specs.Cmp.Lexicographic.{slice_cmp}
use Rattle.pc_base.specs.Bound.{ReadBound}
use Rattle.pc_base.specs.declared.span.Span.{Span}
use Rattle.pc_base.specs.declared.transaction.TxnId.{TxnId}
use Rattle.pc_base.specs.Keyed.{in_order}
use Rattle.pc_base.specs.Span.{contains}
use Rattle.pc_proto.specs.declared.record.Intent.{Intent}
use Rattle.pc_proto.specs.declared.reply.Origin.{Origin}
use Rattle.pc_proto.specs.declared.reply.Reply.{Reply}
use Rattle.pc_proto.specs.declared.reply.Reply.TheVariants as replies
use Rattle.pc_proto.specs.Intents.{first_other}
use Rattle.pc_world.specs.RangeState.{RangeState}
use Rattle.pc_world.specs.Evaluation.Get.{bound_after_read, found_at}

-- The keys of the span at which the range has a version or an intent, in order, each once.
abbrev pub keys_in : Span → RangeState → List (List ℕ)
keys_in span s =
    map (λ e. e.0) (in_order (slice_cmp nat_cmp)
    (map (λ key. (key, key)) (filter (contains span) (map (λ v. v.key) s.versions ++ map (λ e. e.0) s.intents))))

-- The row of a key, where a value was found.
abbrev pub row_found : List ℕ → Origin × Option (List ℕ) → Option (List ℕ × Origin × List ℕ)
row_found key found = option_map (λ value. (key, found.0, value)) found.1

-- The rows that the scan finds.
abbrev pub rows_in : TxnId → ℕ → ℕ → ℕ → Span → RangeState → List (List ℕ × Origin × List ℕ)
rows_in id epoch seq ts span s = filter_map (λ key. row_found key (found_at id epoch seq ts key s)) (keys_in span s)

-- A scan that meets an intent is told of it, and any other the rows.
abbrev pub scan_reply : Option (List ℕ × Intent) → List (List ℕ × Origin × List ℕ) → Reply
scan_reply None rows = replies.Rows rows
scan_reply (Some e) rows = replies.Conflict e.1.meta e.1.ts e.0

-- What a range answers to a piece of a scan.
abbrev pub scan : TxnId → ℕ → ℕ → ℕ → Span → RangeState → Reply
scan id epoch seq ts span s = scan_reply (first_other span ts id s.intents) (rows_in id epoch seq ts span s)

-- The range has been read at this timestamp, unless the scan met an intent.
abbrev pub bound_after_scan : TxnId → ℕ → Span → RangeState → ReadBound
bound_after_scan id ts span s = bound_after_read (option_map (λ e. e.1) (first_other span ts id s.intents)) id ts s.bound
