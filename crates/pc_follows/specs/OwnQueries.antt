-- Queries of a call's own writes: only the write that blocks the commit is asked for, where a stage of the call lists it and is not late.
-- RFC 20180324.
use Rattle.std.specs.Prelude.{◌≡◌, ℕ, List, Any, IsTrue}
use Rattle.pc_base.specs.declared.transaction.TxnId.{TxnId}
use Rattle.pc_follows.specs.NextBlock.{IsNextBlock}
use Rattle.pc_proto.specs.Requests.{is_put_of}
use Rattle.pc_world.specs.Known.{Known}
use Rattle.pc_world.specs.Known.Transactions.{lists_write}
use Rattle.pc_world.specs.StageFate.{IsLate, IsStageWith, SentStage}

-- The stage has this epoch and timestamp, lists this write, and is not late.
pub record MayHaveWrite (k : Known) (epoch seq ts : ℕ) (key : List ℕ) (s : SentStage) : Type 0 where
  pub epoch_same : s.meta.epoch ≡ epoch
  pub ts_same : s.ts ≡ ts
  pub listed : IsTrue (lists_write key seq s.writes)
  pub not_late : IsLate k.heard s → ⊥

-- A query of an own write is of the one that blocks the call, at the timestamp of a stage that lists it and is not late.
pub record QueriesBlocked (k : Known) (id : TxnId) (epoch seq ts : ℕ) (key : List ℕ) : Type 0 where
  pub holder : TxnId
  pub block : IsNextBlock k holder
  pub of : IsTrue (is_put_of id epoch seq block.next.conflict.request)
  pub stage : Any (λ m. IsStageWith id (MayHaveWrite k epoch seq ts key) m.request) k.sent_now
