-- Get and Scan may be sent: the open transaction reads, at its read timestamp, what the open call asks, once its own writes there
-- are proved. SIGMOD 2020 paper, sections 3.1 and 3.3.
use Rattle.std.specs.Prelude.{◌≡◌, ℕ, Some, List, All, Contains, IsTrue, map}
use Rattle.pc_base.specs.declared.span.Span.{Span}
use Rattle.pc_base.specs.declared.span.Span.TheVariants.{One}
use Rattle.pc_base.specs.declared.transaction.TxnId.{TxnId}
use Rattle.pc_base.specs.Span.{contains}
use Rattle.pc_proto.specs.declared.call.Call.TheVariants as calls
use Rattle.pc_world.specs.Known.{Known, call_of, open_txn}
use Rattle.pc_world.specs.Known.Transactions.{Txn}
use Rattle.pc_world.specs.Known.Writes.{Write, is_proved, last_seq_of}
use Rattle.pc_world.specs.RangeOf.{pieces}

-- Each write of the epoch in the span is proved.
abbrev pub IsProvedIn : Span → List Write → Type 0
IsProvedIn span writes = All (λ w. IsTrue (contains span w.key) → IsTrue (is_proved w)) writes

-- The read is the open transaction's, as it stands.
pub record IsReadOf (t : Txn) (id : TxnId) (epoch seq ts : ℕ) (span : Span) : Type 0 where
  pub whose : id ≡ t.id
  pub epoch_now : epoch ≡ t.epoch
  pub own_writes : seq ≡ last_seq_of t.writes
  pub at_read_ts : ts ≡ t.read_ts
  pub proved : IsProvedIn span t.writes

-- The open transaction may send this get.
pub record MaySendGet (k : Known) (id : TxnId) (epoch seq ts : ℕ) (key : List ℕ) : Type 0 where
  pub t : Txn
  pub opened : open_txn k ≡ Some t
  pub asked : call_of k ≡ Some (calls.Get key)
  pub read : IsReadOf t id epoch seq ts (One key)

-- The open transaction may send this piece of its scan.
pub record MaySendScan (splits : List (List ℕ)) (k : Known) (id : TxnId) (epoch seq ts : ℕ) (span : Span) : Type 0 where
  pub t : Txn
  pub whole : Span
  pub opened : open_txn k ≡ Some t
  pub asked : call_of k ≡ Some (calls.Scan whole)
  pub cut : Contains (map (λ p. p.1) (pieces splits whole)) span
  pub read : IsReadOf t id epoch seq ts span
