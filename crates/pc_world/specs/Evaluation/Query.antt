-- Query: whether a listed write stands; where it does not, the range's bound goes up to the staged timestamp under no owner,
-- so that it never will. RFC 20180324, "QueryIntent"; ParallelCommits TLA+, PreventIntent.
use Rattle.std.specs.Prelude.{ℕ, nat_le, Bool, false, ◌&&◌, ◌==◌, if◌then◌else◌, Option, None, Some, List}
use Rattle.pc_base.specs.Bound.{ReadBound, raised}
use Rattle.pc_base.specs.declared.transaction.TxnId.{TxnId}
use Rattle.pc_proto.specs.declared.record.Intent.{Intent}
use Rattle.pc_proto.specs.declared.reply.Reply.{Reply}
use Rattle.pc_proto.specs.declared.reply.Reply.TheVariants as replies
use Rattle.pc_proto.specs.Intents.{last_seq, own_at}
use Rattle.pc_world.specs.RangeState.{RangeState}

-- The intent is of this epoch, has this sequence or a later one, and lies at or below this timestamp.
abbrev pub is_it : ℕ → ℕ → ℕ → Intent → Bool
is_it epoch seq ts i = i.meta.epoch == epoch && (nat_le seq (last_seq i) && nat_le i.ts ts)

-- The transaction's own intent, where there is one, is the listed write.
abbrev pub is_found : ℕ → ℕ → ℕ → Option Intent → Bool
is_found epoch seq ts None = false
is_found epoch seq ts (Some i) = is_it epoch seq ts i

-- The listed write stands at its key.
abbrev pub write_stands : TxnId → ℕ → ℕ → ℕ → List ℕ → RangeState → Bool
write_stands id epoch seq ts key s = is_found epoch seq ts (own_at id key s.intents)

-- What a range answers to a query.
abbrev pub query : TxnId → ℕ → ℕ → ℕ → List ℕ → RangeState → Reply
query id epoch seq ts key s = if write_stands id epoch seq ts key s then replies.Found else replies.Missing

-- The read bound after a query, raised under no owner where the write is missing.
abbrev pub bound_after_query : TxnId → ℕ → ℕ → ℕ → List ℕ → RangeState → ReadBound
bound_after_query id epoch seq ts key s =
    if write_stands id epoch seq ts key s then s.bound else raised ts None s.bound
