-- Laws of every run, staging included: what a query missed stays missing, what was written stands while its transaction is not
-- decided, a stage's writes stay present while its record is not past it, and what is committed stays so. RFC 20180324; ParallelCommits
-- TLA+, ImplicitCommitLeadsToExplicitCommit.
use Rattle.std.specs.Prelude.{◌≡◌, ℕ, ◌<◌, ◌≤◌, ◌⊎◌, true, false, None, Some, List, ◌∷◌, ◌++◌, Contains}
use Rattle.pc_base.specs.Bound.{free_from}
use Rattle.pc_base.specs.declared.entry.Entry.{Entry}
use Rattle.pc_base.specs.declared.transaction.TxnId.{TxnId}
use Rattle.pc_implicit.specs.Decided.{decision}
use Rattle.pc_implicit.specs.Reads.{RangeEvaluated}
use Rattle.pc_implicit.specs.Replied.{WasWritten}
use Rattle.pc_implicit.specs.Stages.{IsOpenTo, IsThere, WasThere}
use Rattle.pc_implicit.specs.Writes.{home_of, own_intent, txns_of}
use Rattle.pc_proto.specs.declared.event.Event.{Event}
use Rattle.pc_proto.specs.declared.record.Intent.{Intent}
use Rattle.pc_proto.specs.declared.record.Standing.TheVariants as standings
use Rattle.pc_proto.specs.declared.reply.Reply.{Reply}
use Rattle.pc_proto.specs.declared.reply.Reply.TheVariants as replies
use Rattle.pc_proto.specs.declared.request.Request.{Request}
use Rattle.pc_proto.specs.declared.request.Request.TheVariants as requests
use Rattle.pc_proto.specs.Intents.{last_seq}
use Rattle.pc_proto.specs.RecordRows.Reached.{is_staged_at, status_of}
use Rattle.pc_proto.specs.Requests.{Recovers}
use Rattle.pc_world.specs.After.{state_at}
use Rattle.pc_world.specs.Committed.{IsCommitted}
use Rattle.pc_world.specs.Decisions.{AnswersCommitted}
use Rattle.pc_world.specs.Evaluation.Query.{write_stands}
use Rattle.pc_world.specs.Known.Transactions.{Txn}
use Rattle.pc_world.specs.Local.{Head}
use Rattle.pc_world.specs.RangeState.{RangeState}
use Rattle.pc_world.specs.Run.{IsRun}
use Rattle.pc_world.specs.StageFate.{SentStage}

-- The write is missing at the timestamp and can't come there any more: the range leaves every writer only later timestamps.
pub record StaysMissing (id : TxnId) (epoch seq ts : ℕ) (key : List ℕ) (s : RangeState) : Type 0 where
  pub absent : write_stands id epoch seq ts key s ≡ false
  pub closed : (writer : TxnId) → ts < free_from writer s.bound

-- A query of this write at this timestamp missed it.
abbrev pub IsMissedQuery : TxnId → ℕ → ℕ → ℕ → List ℕ → Request → Reply → Type 0
IsMissedQuery id epoch seq ts key (requests.Query other at_epoch at_seq at place by) replies.Missing =
    (other ≡ id) × (at_epoch ≡ epoch) × (at_seq ≡ seq) × (at ≡ ts) × (place ≡ key)
IsMissedQuery id epoch seq ts key _ _ = ⊥

-- Missing stays: a write that a query missed is never present there again, whether its transaction is decided or not.
abbrev pub MissingStays : Type 0
MissingStays =
    (head : Head) (range : ℕ) (id : TxnId) (epoch seq ts : ℕ) (key : List ℕ) (before : List (Entry Event)) (e : Entry Event) (later : List (Entry Event))
    → IsRun head (before ++ e ∷ later) → RangeEvaluated head before range (IsMissedQuery id epoch seq ts key) e
    → StaysMissing id epoch seq ts key (state_at head range (before ++ e ∷ later))

-- The intent is past the write: of its epoch, with its sequence or a later one, or of a later epoch; and not below its timestamp.
pub record IsPastWrite (epoch seq ts : ℕ) (i : Intent) : Type 0 where
  pub epoch_reached : epoch ≤ i.meta.epoch
  pub seq_reached : i.meta.epoch ≡ epoch → seq ≤ last_seq i
  pub ts_reached : ts ≤ i.ts

-- Written stays: while a transaction is not decided, its own intent at a key is past each write that was written there.
abbrev pub WrittenStays : Type 0
WrittenStays =
    (head : Head) (history : List (Entry Event)) (id : TxnId) (epoch : ℕ) (key : List ℕ) (seq ts : ℕ)
    → IsRun head history → decision (home_of head id history) ≡ None → WasWritten history id epoch key seq ts
    → (i : Intent) × (own_intent head id key history ≡ Some i) × IsPastWrite epoch seq ts i

-- Staged writes stay: while its record is not past a stage, the stage's writes are all present if each was so at some time since it
-- was sent.
abbrev pub StagedWritesStay : Type 0
StagedWritesStay =
    (head : Head) (history : List (Entry Event)) (s : SentStage)
    → IsRun head history → IsOpenTo head history s → ((w : List ℕ × ℕ) → Contains s.writes w → WasThere head history s w)
    → (w : List ℕ × ℕ) → Contains s.writes w → IsThere head history s w

-- Commits stay: what is committed, also by its staging record alone, stays so, at that timestamp and no other.
abbrev pub CommitsStay : Type 0
CommitsStay =
    (head : Head) (front back : List (Entry Event)) (id : TxnId) (ts : ℕ)
    → IsRun head (front ++ back) → IsCommitted head front id ts
    → IsCommitted head (front ++ back) id ts × ((other : ℕ) → IsCommitted head (front ++ back) id other → other ≡ ts)

-- Recoveries agree: what a recovery answers committed was committed before it.
abbrev pub RecoveriesAgree : Type 0
RecoveriesAgree =
    (head : Head) (before : List (Entry Event)) (e : Entry Event) (later : List (Entry Event)) (id : TxnId) (ts : ℕ)
    → IsRun head (before ++ e ∷ later) → AnswersCommitted head before ts (Recovers id) e → IsCommitted head before id ts

-- Told commits stand: of a transaction that put something and that its session was told committed, the record or mark says so in the epoch
-- that its session has reached, or the record stages there.
abbrev pub ToldCommitsStand : Type 0
ToldCommitsStand =
    (head : Head) (history : List (Entry Event)) (id : TxnId) (t : Txn) (anchor : List ℕ) (ts : ℕ)
    → IsRun head history → Contains (txns_of head id history) t → t.id ≡ id → t.anchor ≡ Some anchor → t.committed ≡ Some ts
    → (decision (home_of head id history) ≡ Some (status_of standings.Committed t.epoch ts)) ⊎ (is_staged_at (home_of head id history) t.epoch ts ≡ true)
