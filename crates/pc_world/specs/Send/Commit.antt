-- Commit may be sent: by a commit whose writes are all proved at or below its timestamp and whose reads are good there; after the
-- transaction was told committed; or where it was heard that it is. SIGMOD 2020 paper, section 3.3; RFC 20180324.
use Rattle.std.specs.Prelude.{◌≡◌, ◌≢◌, ℕ, ◌⊎◌, Some, All, Contains}
use Rattle.pc_proto.specs.declared.call.Call.TheVariants as calls
use Rattle.pc_world.specs.Known.{Known, call_of, open_txn}
use Rattle.pc_world.specs.Known.Transactions.{Txn, IsGood, IsMetaOf}
use Rattle.pc_world.specs.Known.Writes.{IsProvedBy}
use Rattle.pc_world.specs.StageFate.{EachCommit, EachStage, IsLate, SentCommit, WasCommitRefused}
use Rattle.pc_world.specs.Views.{WasCommitted}

-- The transaction is in a commit, or was told that it committed at this timestamp.
abbrev pub MayCommit : Known → Txn → ℕ → Type 0
MayCommit k t ts = ((open_txn k ≡ Some t) × (call_of k ≡ Some calls.Commit)) ⊎ (t.committed ≡ Some ts)

-- The session knows by itself that the transaction may commit at this timestamp.
pub record MayDecide (k : Known) (t : Txn) (ts : ℕ) : Type 0 where
  pub may : MayCommit k t ts
  pub at_write_ts : ts ≡ t.write_ts
  pub good : IsGood k.heard t ts
  pub proved : All (IsProvedBy ts) t.writes
  pub stages : EachStage t.id k.sent (λ s. s.ts ≢ ts → IsLate k.heard s)
  pub commits : EachCommit t.id k.sent (λ c. c.ts ≢ ts → WasCommitRefused k.heard c)

-- A transaction of the session may send this commit.
pub record MaySendCommit (k : Known) (c : SentCommit) : Type 0 where
  pub t : Txn
  pub mine : Contains k.txns t
  pub whose : IsMetaOf t c.meta
  pub all_locks : c.locks ≡ t.locks
  pub decided : MayDecide k t c.ts ⊎ WasCommitted k.heard t.id c.ts
