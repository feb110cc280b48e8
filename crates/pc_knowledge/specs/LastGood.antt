-- How far the reads of the last transaction begun are known to be good, so that not each refresh of a commit asks all of them. Own profile.
use Rattle.std.specs.Prelude.{◌≡◌, ℕ, ◌≤◌, true, Some, List, All}
use Rattle.pc_base.specs.declared.transaction.TxnId.{TxnId}
use Rattle.pc_world.specs.Known.{Known, first_if}
use Rattle.pc_world.specs.Known.Reads.{IsGoodTo, Read}
use Rattle.pc_world.specs.Known.Traffic.{Heard}
use Rattle.pc_world.specs.Known.Transactions.{Txn}

-- Each of these reads is good at this timestamp or at a later one.
abbrev pub AreGoodUpTo : TxnId → List Heard → ℕ → List Read → Type 0
AreGoodUpTo id heard ts reads = All (λ r. (good : ℕ) × IsGoodTo id heard r.span r.ts good × (ts ≤ good)) reads

-- The reads of the first of these transactions are good up to this timestamp.
abbrev pub AreFirstGood : List Txn → List Heard → ℕ → Type 0
AreFirstGood txns heard good = (t : Txn) → first_if true txns ≡ Some t → AreGoodUpTo t.id heard good t.reads

-- The reads of the last transaction begun are good up to this timestamp.
abbrev pub AreLastGood : Known → ℕ → Type 0
AreLastGood k good = AreFirstGood k.txns k.heard good
