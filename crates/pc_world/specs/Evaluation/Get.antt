-- Get: another's intent at or below the read's timestamp is a conflict; else the range is read at that timestamp, and the
-- transaction finds its own write, or the newest version that it may see. SIGMOD 2020 paper, section 3.3.
use Rattle.std.specs.Prelude.{ℕ, nat_le, ◌==◌, Option, None, Some, List}
use Rattle.std.specs.Option.{option_and_then}
use Rattle.pc_base.specs.Bound.{ReadBound, raised}
use Rattle.pc_base.specs.declared.transaction.TxnId.{TxnId}
use Rattle.pc_base.specs.declared.version.Version.{Version}
use Rattle.pc_base.specs.Versions.{visible}
use Rattle.pc_proto.specs.declared.record.Intent.{Intent}
use Rattle.pc_proto.specs.declared.reply.Origin.{Origin}
use Rattle.pc_proto.specs.declared.reply.Origin.TheVariants as origins
use Rattle.pc_proto.specs.declared.reply.Reply.{Reply}
use Rattle.pc_proto.specs.declared.reply.Reply.TheVariants as replies
use Rattle.pc_proto.specs.Intents.{kept_if, other_at, own_at, value_by}
use Rattle.pc_world.specs.RangeState.{RangeState}

-- Another transaction's intent that stands in a read's way.
abbrev pub get_blocker : TxnId → ℕ → List ℕ → RangeState → Option Intent
get_blocker id ts key s = kept_if (λ i. nat_le i.ts ts) (other_at id key s.intents)

-- What the transaction's own intent of this epoch says, by its writes up to this sequence.
abbrev pub own_value : TxnId → ℕ → ℕ → List ℕ → RangeState → Option (Option (List ℕ))
own_value id epoch seq key s =
    option_and_then (value_by seq) (kept_if (λ i. i.meta.epoch == epoch) (own_at id key s.intents))

-- What a version gives to a read, nothing where there is none.
abbrev pub version_found : Option Version → Origin × Option (List ℕ)
version_found None = (origins.Nothing, None)
version_found (Some v) = (origins.At v.ts, v.value)

-- The transaction's own write is found before any version.
abbrev pub found_first : Option (Option (List ℕ)) → Option Version → Origin × Option (List ℕ)
found_first (Some value) version = (origins.Own, value)
found_first None version = version_found version

-- What a read finds at a key: the own write first, else the newest version at or below its timestamp.
abbrev pub found_at : TxnId → ℕ → ℕ → ℕ → List ℕ → RangeState → Origin × Option (List ℕ)
found_at id epoch seq ts key s = found_first (own_value id epoch seq key s) (visible key ts s.versions)

-- A get that meets an intent is told of it, and any other what it found.
abbrev pub get_reply : Option Intent → List ℕ → Origin × Option (List ℕ) → Reply
get_reply None key found = replies.Value found.0 found.1
get_reply (Some i) key found = replies.Conflict i.meta i.ts key

-- What a range answers to a get.
abbrev pub get : TxnId → ℕ → ℕ → ℕ → List ℕ → RangeState → Reply
get id epoch seq ts key s = get_reply (get_blocker id ts key s) key (found_at id epoch seq ts key s)

-- The read bound, raised unless the read met an intent.
abbrev pub bound_after_read : Option Intent → TxnId → ℕ → ReadBound → ReadBound
bound_after_read None id ts bound = raised ts (Some id) bound
bound_after_read (Some i) id ts bound = bound

-- The range has been read at this timestamp, unless the read met an intent.
abbrev pub bound_after_get : TxnId → ℕ → List ℕ → RangeState → ReadBound
bound_after_get id ts key s = bound_after_read (get_blocker id ts key s) id ts s.bound
