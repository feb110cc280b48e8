-- What a refresh says of the transaction that sends it.
use Rattle.std.specs.Prelude.{◌≡◌, ℕ, ◌≤◌, ◌<◌, Option, Some, List, All, Any, IsTrue}
use Rattle.pc_base.specs.declared.span.Span.{Span}
use Rattle.pc_base.specs.declared.transaction.TxnId.{TxnId}
use Rattle.pc_proto.specs.declared.call.Call.{Call}
use Rattle.pc_proto.specs.declared.call.Call.TheVariants as calls
use Rattle.pc_world.specs.Known.Reads.{IsGoodTo, Read, holds_span}
use Rattle.pc_world.specs.Known.Traffic.{Heard}
use Rattle.pc_world.specs.Known.Transactions.{Txn}

-- The span holds that of some read, and each read is good up to `from` at least.
abbrev pub IsOfReads : TxnId → List Heard → ℕ → Span → List Read → Type 0
IsOfReads id heard from span reads =
    Any (λ r. IsTrue (holds_span span r.span)) reads × All (λ r. (good : ℕ) × IsGoodTo id heard r.span r.ts good × (from ≤ good)) reads

-- In a commit, the refresh is the transaction's.
abbrev pub IsRefreshIn : Option Call → Txn → List Heard → TxnId → ℕ → ℕ → Span → Type 0
IsRefreshIn call t heard id from to span =
    ((call ≡ Some calls.Commit) × (id ≡ t.id))
    × (((from ≡ t.read_ts) × (from < to) × (to ≡ t.write_ts)) × IsOfReads t.id heard from span t.reads)
