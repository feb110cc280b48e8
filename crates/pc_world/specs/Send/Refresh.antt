-- Refresh may be sent: a commit whose write timestamp has moved asks, for a span that holds one that was read, whether the read is
-- still good there. SIGMOD 2020 paper, section 3.4.
use Rattle.std.specs.Prelude.{◌≡◌, ℕ, ◌≤◌, ◌<◌, Some, All, Any, IsTrue}
use Rattle.pc_base.specs.declared.span.Span.{Span}
use Rattle.pc_base.specs.declared.transaction.TxnId.{TxnId}
use Rattle.pc_proto.specs.declared.call.Call.TheVariants as calls
use Rattle.pc_world.specs.Known.{Known, call_of, open_txn}
use Rattle.pc_world.specs.Known.Reads.{IsGoodTo, holds_span}
use Rattle.pc_world.specs.Known.Transactions.{Txn}

-- The open transaction, in a commit, may send this refresh.
pub record MaySendRefresh (k : Known) (id : TxnId) (from to : ℕ) (span : Span) : Type 0 where
  pub t : Txn
  pub opened : open_txn k ≡ Some t
  pub asked : call_of k ≡ Some calls.Commit
  pub whose : id ≡ t.id
  pub holds_read : Any (λ r. IsTrue (holds_span span r.span)) t.reads
  pub from_read_ts : from ≡ t.read_ts
  pub good : All (λ r. (good : ℕ) × IsGoodTo t.id k.heard r.span r.ts good × (from ≤ good)) t.reads
  pub forward : from < to
  pub to_write_ts : to ≡ t.write_ts
