-- Put: any other transaction's intent at the key is a conflict; a write that a later one of the transaction has overtaken
-- stands already; else the intent is laid at the least timestamp that the key's newest version, the read bound and the
-- transaction's own intent leave. SIGMOD 2020 paper, sections 3.1 and 3.3.
use Rattle.std.specs.Prelude.{ℕ, max, nat_le, nat_lt, Bool, false, ◌||◌, ◌&&◌, ◌==◌, if◌then◌else◌, Option, None, Some, List}
use Rattle.std.specs.Option.{option_map_or}
use Rattle.pc_base.specs.Bound.{least_write}
use Rattle.pc_base.specs.Versions.{above_newest}
use Rattle.pc_proto.specs.declared.meta.TxnMeta.{TxnMeta}
use Rattle.pc_proto.specs.declared.record.Intent.{Intent}
use Rattle.pc_proto.specs.declared.reply.Reply.{Reply}
use Rattle.pc_proto.specs.declared.reply.Reply.TheVariants as replies
use Rattle.pc_proto.specs.Intents.{fresh, grown, last_seq, other_at, own_at}
use Rattle.pc_world.specs.RangeState.{RangeState}
use Rattle.pc_world.specs.Evaluation.IntentChange.{IntentChange, Leave, Lay}

-- The transaction's own intent is of a later epoch, or has this sequence or a later one already.
abbrev pub is_overtaken_by : TxnMeta → ℕ → Intent → Bool
is_overtaken_by meta seq i = nat_lt meta.epoch i.meta.epoch || i.meta.epoch == meta.epoch && nat_le seq (last_seq i)

-- The least timestamp, not below the one asked for, that the range leaves to this write.
abbrev pub write_ts : TxnMeta → ℕ → List ℕ → Option Intent → RangeState → ℕ
write_ts meta ts key own s =
    max (least_write s.bound ts meta.id) (max (above_newest key s.versions) (option_map_or (λ i. i.ts) own 0))

-- The intent with the write: one more of its epoch, or the first one.
abbrev pub laid : TxnMeta → ℕ → ℕ → Option (List ℕ) → Option Intent → Intent
laid meta seq ts value None = fresh meta seq ts value
laid meta seq ts value (Some i) =
    if i.meta.epoch == meta.epoch then grown seq ts value i else fresh meta seq ts value

-- What a put comes to: it meets another's intent, it stands already, or it is laid.
pub data PutOutcome : Type 0 where
  Meets : (i : Intent) → PutOutcome
  Stands : (ts : ℕ) → PutOutcome
  Lands : (i : Intent) → PutOutcome

-- The transaction's own intent, where there is one, has overtaken the write.
abbrev pub overtaken : TxnMeta → ℕ → Option Intent → Bool
overtaken meta seq None = false
overtaken meta seq (Some i) = is_overtaken_by meta seq i

-- What a put comes to where no other transaction's intent stands in its way.
abbrev pub own_outcome : TxnMeta → ℕ → ℕ → List ℕ → Option (List ℕ) → Option Intent → RangeState → PutOutcome
own_outcome meta seq ts key value own s =
    if overtaken meta seq own then Stands (option_map_or (λ i. i.ts) own 0)
    else Lands (laid meta seq (write_ts meta ts key own s) value own)

-- Another transaction's intent comes before all else.
abbrev pub first_outcome : Option Intent → PutOutcome → PutOutcome
first_outcome None outcome = outcome
first_outcome (Some i) outcome = Meets i

-- What this put comes to in the range.
abbrev pub outcome_of_put : TxnMeta → ℕ → ℕ → List ℕ → Option (List ℕ) → RangeState → PutOutcome
outcome_of_put meta seq ts key value s =
    first_outcome (other_at meta.id key s.intents) (own_outcome meta seq ts key value (own_at meta.id key s.intents) s)

-- What a range answers to a put that came to this.
abbrev pub put_reply : List ℕ → PutOutcome → Reply
put_reply key (Meets i) = replies.Conflict i.meta i.ts key
put_reply key (Stands ts) = replies.Written ts
put_reply key (Lands i) = replies.Written i.ts

-- What a put that came to this does to the intent at its key.
abbrev pub put_change : PutOutcome → IntentChange
put_change (Meets i) = Leave
put_change (Stands ts) = Leave
put_change (Lands i) = Lay i
