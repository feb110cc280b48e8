-- How what a transaction read stands beside what its session knows, and when its refreshes may be sent. SIGMOD 2020 paper, section 3.4.
use Rattle.std.specs.Prelude.{◌≡◌, ℕ, ◌<◌, ◌≤◌, Some, List, ◌++◌, All, Any, Contains}
use Rattle.std.specs.List.Sorted.{IsStrictlySortedBy}
use Rattle.pc_base.specs.declared.span.Span.{Span}
use Rattle.pc_base.specs.SpanOrder.{span_cmp}
use Rattle.pc_base.specs.declared.transaction.TxnId.{TxnId}
use Rattle.pc_proto.specs.declared.call.Call.TheVariants as calls
use Rattle.pc_proto.specs.declared.request.Request.{Request}
use Rattle.pc_proto.specs.declared.request.Request.TheVariants as requests
use Rattle.pc_reads.specs.declared.reads.TxnReads.{TxnReads}
use Rattle.pc_world.specs.Known.{Known, call_of, open_txn}
use Rattle.pc_world.specs.Known.Reads.{IsGoodAt, Read}
use Rattle.pc_world.specs.Known.Traffic.{Heard}
use Rattle.pc_world.specs.Known.Transactions.{IsGood, Txn}
use Rattle.pc_world.specs.Send.Refresh.{MaySendRefresh}

-- The spans are those of the reads, in order and each once, and each read is good at the timestamp at which the transaction reads.
pub record TxnReadsStand (id : TxnId) (heard : List Heard) (reads : List Read) (x : TxnReads) : Type 0 where
  pub kept : All (λ r. Contains x.spans r.span) reads
  pub of_reads : All (λ span. Any (λ r. r.span ≡ span) reads) x.spans
  pub good : All (IsGoodAt id heard x.ts) reads
  pub ordered : IsStrictlySortedBy span_cmp x.spans

-- The refresh of a span.
abbrev pub refresh_to : TxnId → ℕ → ℕ → Span → Request
refresh_to id from to span = requests.Refresh id from to span

-- The transaction is open, and in a commit whose write timestamp lies above the one at which it reads.
pub record IsCommitting (k : Known) (t : Txn) (id : TxnId) (from to : ℕ) : Type 0 where
  pub opened : open_txn k ≡ Some t
  pub asked : call_of k ≡ Some calls.Commit
  pub whose : id ≡ t.id
  pub from_read_ts : from ≡ t.read_ts
  pub forward : from < to
  pub to_write_ts : to ≡ t.write_ts

-- The request is a refresh that may be sent.
abbrev pub MayRefresh : Known → Request → Type 0
MayRefresh k (requests.Refresh id from to span) = MaySendRefresh k id from to span
MayRefresh k request = ⊥

-- Reads are good: where they stand so, a commit at the timestamp at which the transaction reads finds them good.
abbrev pub ReadsAreGood : Type 0
ReadsAreGood =
    (k : Known) (t : Txn) (x : TxnReads) → TxnReadsStand t.id k.heard t.reads x → t.begin ≤ x.ts → IsGood k.heard t x.ts

-- Reads stand on: they stand so after whatever else is heard.
abbrev pub ReadsStandOn : Type 0
ReadsStandOn =
    (id : TxnId) (heard more : List Heard) (reads : List Read) (x : TxnReads)
    → TxnReadsStand id heard reads x → TxnReadsStand id (heard ++ more) reads x
