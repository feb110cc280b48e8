-- The reads of a transaction's present epoch, and how far they are good. SIGMOD 2020 paper, section 3.4.
use Rattle.std.specs.Prelude.{◌≡◌, ℕ, ◌≤◌, max, Bool, true, false, ◌&&◌, Option, None, Some, List, [], ◌∷◌, ◌++◌, Contains, IsTrue}
use Rattle.std.specs.List.{flat_map}
use Rattle.pc_base.specs.declared.span.Span.{Span}
use Rattle.pc_base.specs.declared.span.Span.TheVariants.{One, Between}
use Rattle.pc_base.specs.declared.transaction.TxnId.{TxnId}
use Rattle.pc_base.specs.Span.{contains, key_at_most, same_key}
use Rattle.pc_proto.specs.declared.answer.Answer.{Answer}
use Rattle.pc_proto.specs.declared.answer.Answer.TheVariants as answers
use Rattle.pc_proto.specs.declared.reply.Reply.{Reply}
use Rattle.pc_proto.specs.declared.reply.Reply.TheVariants as replies
use Rattle.pc_proto.specs.declared.request.Request.{Request}
use Rattle.pc_proto.specs.declared.request.Request.TheVariants as requests
use Rattle.pc_world.specs.Known.Traffic.{Heard}

-- A read whose value or rows were told: its span, and the timestamp at which it was made.
pub record Read : Type 0 where
  pub span : Span
  pub ts : ℕ

-- The first end is not behind the second; an open start is before every key.
abbrev pub starts_by : Option (List ℕ) → Option (List ℕ) → Bool
starts_by None other = true
starts_by (Some one) None = false
starts_by (Some one) (Some other) = key_at_most one other

-- The first end is not before the second; an open end is behind every key.
abbrev pub ends_after : Option (List ℕ) → Option (List ℕ) → Bool
ends_after None other = true
ends_after (Some one) None = false
ends_after (Some one) (Some other) = key_at_most other one

-- The first span holds the second, by their ends.
abbrev pub holds_span : Span → Span → Bool
holds_span (One one) (One other) = same_key one other
holds_span (One one) (Between from to) = false
holds_span (Between from to) (One other) = contains (Between from to) other
holds_span (Between from to) (Between first end) = starts_by from first && ends_after to end

-- A read that was heard to a get or a piece of a scan.
abbrev pub read_heard : Request → Reply → List Read
read_heard (requests.Get id epoch seq ts key) (replies.Value origin value) = record { span = One key; ts = ts } ∷ []
read_heard (requests.Scan id epoch seq ts span) (replies.Rows rows) = record { span = span; ts = ts } ∷ []
read_heard _ _ = []

-- What these replies read.
abbrev pub reads_heard : List Heard → List Read
reads_heard heard = flat_map (λ h. read_heard h.request h.reply) heard

-- A value or rows that are told make what the open call's own messages read reads of the epoch; a restart begins an epoch without
-- reads.
abbrev pub reads_told : Answer → List Heard → List Read → List Read
reads_told (answers.Value value) replied reads = reads ++ reads_heard replied
reads_told (answers.Rows rows) replied reads = reads ++ reads_heard replied
reads_told (answers.Restart key ts) replied reads = []
reads_told _ replied reads = reads

-- The transaction was told that what it read in this span at `from` is still so at `to`.
pub record WasRefreshed (id : TxnId) (heard : List Heard) (span : Span) (from to : ℕ) : Type 0 where
  pub reply : Heard
  pub listed : Contains heard reply
  pub asked : reply.request ≡ requests.Refresh id from to span
  pub told : reply.reply ≡ replies.Refreshed

-- A read made at `ts` is good up to this timestamp, by itself or by refreshes of spans that hold its own, each beginning
-- where it is good already.
pub data IsGoodTo (id : TxnId) (heard : List Heard) (span : Span) (ts : ℕ) : ℕ → Type 0 where
  AtOnce : IsGoodTo id heard span ts ts
  Further : (good : ℕ) (wider : Span) (from to : ℕ) → IsGoodTo id heard span ts good
      → WasRefreshed id heard wider from to → IsTrue (holds_span wider span) → from ≤ good
      → IsGoodTo id heard span ts (max good to)

-- The read is good at this timestamp: it is not below the read's own, nor above one up to which the read is good.
pub record IsGoodAt (id : TxnId) (heard : List Heard) (ts : ℕ) (read : Read) : Type 0 where
  pub not_below : read.ts ≤ ts
  pub up_to : (good : ℕ) × IsGoodTo id heard read.span read.ts good × (ts ≤ good)
