-- The transactions whose stages are known to be dead. Own profile, after RFC 20180324.
use Rattle.std.specs.Prelude.{◌≡◌, true, List}
use Rattle.std.specs.BTreeSet.{contains}
use Rattle.pc_base.specs.declared.transaction.TxnId.{TxnId}
use Rattle.pc_base.specs.Transaction.{txn_cmp}
use Rattle.pc_files.specs.declared.uncommitted.Uncommitted.{Uncommitted}
use Rattle.pc_world.specs.Known.Traffic.{Heard, Sent}
use Rattle.pc_world.specs.StageFate.{IsUncommitted}

-- Of each transaction that is kept here every stage is dead, and every commit refused.
abbrev pub AreUncommitted : List Sent → List Heard → Uncommitted → Type 0
AreUncommitted sent heard x = (id : TxnId) → contains txn_cmp x.ids id ≡ true → IsUncommitted id sent heard
