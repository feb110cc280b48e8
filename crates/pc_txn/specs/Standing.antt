-- How the open transaction stands beside what its session knows, and what leaves it so.
use Rattle.std.specs.Prelude.{◌≡◌, ℕ, ◌+◌, ◌≤◌, ◌<◌, Bool, true, false, ◌⊎◌, Option, None, Some, List, ◌++◌, All, Any, Contains, IsTrue}
use Rattle.std.specs.Option.{option_map_or}
use Rattle.pc_base.specs.declared.transaction.TxnId.{TxnId}
use Rattle.pc_base.specs.declared.transaction.Who.{Who}
use Rattle.pc_base.specs.Transaction.{same_txn}
use Rattle.pc_flight.specs.InFlight.{FlightStands}
use Rattle.pc_follows.specs.Heartbeats.{last_shown}
use Rattle.pc_proto.specs.declared.reply.Reply.TheVariants as replies
use Rattle.pc_proto.specs.declared.request.Request.{Request}
use Rattle.pc_proto.specs.declared.request.Request.TheVariants as requests
use Rattle.pc_proto.specs.Replies.{is_undecided_status, view_in}
use Rattle.pc_proto.specs.Requests.{is_about, subject_anchor}
use Rattle.pc_proto.specs.Views.{is_staging_at}
use Rattle.pc_reads.specs.ReadsStanding.{TxnReadsStand}
use Rattle.pc_staging.specs.Standing.{StagingStands, WasStagedAt}
use Rattle.pc_txn.specs.declared.txn.OpenTxn.{OpenTxn}
use Rattle.pc_txn.specs.Opened.{opened_as}
use Rattle.pc_txn.specs.Writing.{IsFoundProved, IsNotWritten, PutsUpTo, WritesStand, finds}
use Rattle.pc_world.specs.Known.{Known}
use Rattle.pc_world.specs.Known.Traffic.{Heard, Sent}
use Rattle.pc_world.specs.Known.Transactions.{Txn}
use Rattle.pc_world.specs.Known.Writes.{IsProvedBy, Write, is_proved, last_seq_of}
use Rattle.pc_world.specs.StageFate.{EachStage, IsLate, IsLateByRecord, SentCommit, SentStage, is_write_refuted}

-- The request neither writes nor decides, and is no heartbeat.
abbrev pub is_plain : Request → Bool
is_plain (requests.Put meta seq ts key value) = false
is_plain (requests.Stage meta ts now writes locks) = false
is_plain (requests.Commit meta ts locks) = false
is_plain (requests.Beat meta ts now) = false
is_plain _ = true

-- The request asks whether a write of this transaction stands.
abbrev pub is_query_of : TxnId → Request → Bool
is_query_of id (requests.Query other epoch seq ts key by) = same_txn other id
is_query_of id _ = false

-- What was heard of a record: that it is not final, and stages in no later epoch than this one, by a request that named this anchor.
pub record IsUndecidedView (anchor : Option (List ℕ)) (last : ℕ) (h : Heard) : Type 0 where
  pub anchored : subject_anchor h.request ≡ anchor
  pub undecided : IsTrue (is_undecided_status h.reply)
  pub no_later : (epoch ts : ℕ) → IsTrue (option_map_or (is_staging_at epoch ts) (view_in h.reply) false) → epoch ≤ last

-- If the reply is about the transaction's record, the record was not final.
abbrev pub IsUndecidedOf : Txn → Heard → Type 0
IsUndecidedOf t h = is_about t.id h.request ≡ true → IsUndecidedView t.anchor t.epoch h

-- A query missed the write of this key and sequence, of this epoch of the transaction, at this timestamp.
pub record IsMissingAt (id : TxnId) (epoch : ℕ) (key : List ℕ) (seq ts : ℕ) (h : Heard) : Type 0 where
  pub by : Who
  pub asked : h.request ≡ requests.Query id epoch seq ts key by
  pub told : h.reply ≡ replies.Missing

-- The write was heard to be missing at this timestamp.
abbrev pub WasMissedAt : List Heard → TxnId → ℕ → List ℕ → ℕ → ℕ → Type 0
WasMissedAt heard id epoch key seq ts = Any (IsMissingAt id epoch key seq ts) heard

-- The write stands only above this timestamp, which lies below the write timestamp: it is proved, and not at or below it; or a query missed it there.
pub record StandsAbove (heard : List Heard) (t : Txn) (ts : ℕ) (w : Write) : Type 0 where
  pub low : ts < t.write_ts
  pub above : IsProvedBy ts w → ⊥
  pub fixed : IsTrue (is_proved w) ⊎ WasMissedAt heard t.id t.epoch w.key w.seq ts

-- Each timestamp at which the transaction was heard to stage in its epoch is that of one of these stages, or some write stands only above it.
abbrev pub AreStagedThere : List SentStage → List Heard → Txn → Type 0
AreStagedThere stages heard t = (ts : ℕ) → WasStagedAt heard t ts → Any (λ s. s.ts ≡ ts) stages ⊎ Any (StandsAbove heard t ts) t.writes

-- Each of these stages that is late is so by a write that stands only above it.
abbrev pub AreLateByWrites : List SentStage → List Heard → Txn → Type 0
AreLateByWrites stages heard t = All (λ s. IsLate heard s → Any (StandsAbove heard t s.ts) t.writes) stages

-- What became of the stage is known: it is one of these, or some write stands only above it, or its record went another way.
abbrev pub IsFateKnown : List SentStage → List Heard → Txn → SentStage → Type 0
IsFateKnown stages heard t s = Contains stages s ⊎ (Any (StandsAbove heard t s.ts) t.writes ⊎ IsLateByRecord heard s)

-- The stage is of no later epoch than the transaction has reached; and what became of one of this epoch is known.
pub record IsAccountedFor (stages : List SentStage) (heard : List Heard) (t : Txn) (s : SentStage) : Type 0 where
  pub no_later : s.meta.epoch ≤ t.epoch
  pub fate : s.meta.epoch ≡ t.epoch → IsFateKnown stages heard t s

-- A query missed a write of the transaction just below this timestamp.
pub record IsMissingJustBelow (id : TxnId) (ts : ℕ) (h : Heard) : Type 0 where
  pub epoch : ℕ
  pub seq : ℕ
  pub at : ℕ
  pub key : List ℕ
  pub missing : IsMissingAt id epoch key seq at h
  pub just : ts ≡ at + 1

-- The write timestamp is one that the session's clock has reached, or lies just above one at which a query missed a write.
abbrev pub WritesWithinReach : Known → Txn → Type 0
WritesWithinReach k t = (t.write_ts ≤ k.high) ⊎ Any (IsMissingJustBelow t.id t.write_ts) k.heard

-- The stage lies at the write timestamp; and where the transaction was heard to stage there, that is where it was last heard to stage.
pub record IsStageHere (heard : List Heard) (staged : Option ℕ) (t : Txn) (s : SentStage) : Type 0 where
  pub at_write_ts : s.ts ≡ t.write_ts
  pub heard_last : WasStagedAt heard t s.ts → staged ≡ Some s.ts

-- Each of these stages that is not late is so.
abbrev pub AreLiveHere : List SentStage → List Heard → Option ℕ → Txn → Type 0
AreLiveHere stages heard staged t = All (λ s. (IsLate heard s → ⊥) → IsStageHere heard staged t s) stages

-- The reply refutes no stage of the transaction.
abbrev pub RefutesNoStage : Txn → Heard → Type 0
RefutesNoStage t h = (s : SentStage) → s.meta.id ≡ t.id → is_write_refuted s h.request h.reply ≡ false

-- The reply leaves the transaction as it is: it is not about its record, and shows no write of it to be written, found or missing.
pub record LeavesAsIs (t : Txn) (h : Heard) : Type 0 where
  pub other : is_about t.id h.request ≡ false
  pub put : PutsUpTo t (last_seq_of t.writes) h.request
  pub unwritten : (seq : ℕ) → IsNotWritten t seq h
  pub unrefuted : RefutesNoStage t h
  pub unfound : (epoch seq : ℕ) → finds t.id epoch seq h.request h.reply ≡ false

-- The open transaction is the one that its session knows; no view of it that was heard is final; it last showed that it is alive at
-- the reading that is kept; each write of its epoch is in flight, or proved
-- at or below its write timestamp; what became of its stages and commits is as its session knows it, and one that is not late lies at the write
-- timestamp; and its reads are good where it reads.
pub record TxnStands (k : Known) (stages : List SentStage) (commit : Option SentCommit) (t : Txn) (x : OpenTxn) : Type 0 where
  pub same : x ≡ opened_as x.shown x.cause x.reads.spans x.in_flight x.staging t
  pub number : t.id.number ≤ k.begun
  pub begun : t.begin ≤ t.read_ts
  pub behind : t.read_ts ≤ t.write_ts
  pub at_begin : t.anchor ≡ None → t.read_ts ≡ t.begin
  pub below : WritesWithinReach k t
  pub views : All (IsUndecidedOf t) k.heard
  pub shown : x.shown ≡ last_shown t k.sent
  pub staged : AreStagedThere stages k.heard t
  pub accounted : EachStage t.id k.sent (IsAccountedFor stages k.heard t)
  pub late : AreLateByWrites stages k.heard t
  pub live : AreLiveHere stages k.heard x.staging.staged t
  pub puts : All (λ m. PutsUpTo t (last_seq_of t.writes) m.request) k.sent
  pub put_heard : All (λ h. PutsUpTo t (last_seq_of t.writes) h.request) k.heard
  pub found : All (IsFoundProved t) k.heard
  pub writes : WritesStand k.sent k.heard t
  pub flight : FlightStands x.in_flight t
  pub staging : StagingStands k stages commit t x.staging
  pub reads : TxnReadsStand t.id k.heard t.reads x.reads

-- Since then the session sent and heard these more, and no timestamp and no count fell.
pub record HasMovedOn (k now : Known) (sent_more : List Sent) (heard_more : List Heard) : Type 0 where
  pub sent : now.sent ≡ k.sent ++ sent_more
  pub heard : now.heard ≡ k.heard ++ heard_more
  pub begun : k.begun ≤ now.begun
  pub high : k.high ≤ now.high
