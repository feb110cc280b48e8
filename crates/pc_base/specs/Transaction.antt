-- When two transaction ids are one.
use Rattle.std.specs.Prelude.{Bool, ◌&&◌, ◌==◌}
use Rattle.std.specs.Ordering.{nat_cmp, ordering_then}
use Rattle.std.specs.declared.cmp.Ordering.{Ordering}
use Rattle.pc_base.specs.declared.transaction.TxnId.{TxnId}

-- The same session, and the same number in it.
abbrev pub same_txn : TxnId → TxnId → Bool
same_txn one other = one.session == other.session && one.number == other.number

-- By session, then by number.
abbrev pub txn_cmp : TxnId → TxnId → Ordering
txn_cmp one other = ordering_then (nat_cmp one.session other.session) (nat_cmp one.number other.number)
