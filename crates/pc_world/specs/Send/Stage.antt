-- Stage may be sent: a commit with writes in flight stages them all, at the write timestamp, where its reads are good there and its
-- earlier stages and commits can't be taken for this one; or an equal stage is sent again, as long as it is not late. RFC 20180324;
-- ParallelCommits TLA+, PipelineWritesAndStage.
use Rattle.std.specs.Prelude.{◌≡◌, ◌≢◌, ℕ, ◌<◌, ◌⊎◌, Some, List, [], All, Any, Contains, IsTrue}
use Rattle.pc_proto.specs.declared.call.Call.TheVariants as calls
use Rattle.pc_world.specs.Known.{Known, call_of, open_txn, reading_of}
use Rattle.pc_world.specs.Known.Traffic.{Heard}
use Rattle.pc_world.specs.Known.Transactions.{Txn, IsGood, IsMetaOf}
use Rattle.pc_world.specs.Known.Writes.{IsProvedBy, is_proved, listed_as, unproved}
use Rattle.pc_world.specs.StageFate.{EachCommit, EachStage, IsLate, IsLateByRecord, SentStage, WasCommitRefused, stage_request}

-- An earlier stage does not stand in the way of one at this timestamp.
abbrev pub IsPassed : List Heard → ℕ → SentStage → Type 0
IsPassed heard ts s = (IsLate heard s × (s.ts < ts)) ⊎ IsLateByRecord heard s

-- The open transaction, in a commit, may send this stage for the first time.
pub record MaySendNewStage (k : Known) (s : SentStage) : Type 0 where
  pub t : Txn
  pub opened : open_txn k ≡ Some t
  pub asked : call_of k ≡ Some calls.Commit
  pub whose : IsMetaOf t s.meta
  pub good : IsGood k.heard t s.ts
  pub proved : All (λ w. IsTrue (is_proved w) → IsProvedBy s.ts w) t.writes
  pub in_flight : s.writes ≡ listed_as (unproved t.writes)
  pub some : s.writes ≢ []
  pub at_write_ts : s.ts ≡ t.write_ts
  pub read_now : reading_of k ≡ Some s.now
  pub all_locks : s.locks ≡ t.locks
  pub stages : EachStage t.id k.sent (IsPassed k.heard s.ts)
  pub commits : EachCommit t.id k.sent (WasCommitRefused k.heard)

-- An earlier stage of the transaction's epoch, that is not late.
pub record MaySendStageAgain (k : Known) (s : SentStage) : Type 0 where
  pub t : Txn
  pub mine : Contains k.txns t
  pub whose : s.meta.id ≡ t.id
  pub epoch_now : s.meta.epoch ≡ t.epoch
  pub before : Any (λ m. m.request ≡ stage_request s) k.sent
  pub not_late : IsLate k.heard s → ⊥

-- The session may send this stage, for the first time or again.
abbrev pub MaySendStage : Known → SentStage → Type 0
MaySendStage k s = MaySendNewStage k s ⊎ MaySendStageAgain k s
