-- What leaves the open transaction as it is.
use Rattle.std.specs.Prelude.{IsTrue, List, Option, All}
use Rattle.pc_txn.specs.declared.txn.OpenTxn.{OpenTxn}
use Rattle.pc_txn.specs.Standing.{HasMovedOn, LeavesAsIs, TxnStands, is_plain}
use Rattle.pc_world.specs.Known.{Known}
use Rattle.pc_world.specs.Known.Traffic.{Heard, Sent}
use Rattle.pc_world.specs.Known.Transactions.{Txn}
use Rattle.pc_world.specs.StageFate.{SentCommit, SentStage}

-- The transaction stands on while its session sends messages that neither write nor decide, and hears what leaves it as it is.
abbrev pub TxnStandsOn : Type 0
TxnStandsOn =
    (k now : Known) (stages : List SentStage) (commit : Option SentCommit) (t : Txn) (x : OpenTxn) (sent_more : List Sent) (heard_more : List Heard)
    → TxnStands k stages commit t x → HasMovedOn k now sent_more heard_more → All (λ m. IsTrue (is_plain m.request)) sent_more → All (LeavesAsIs t) heard_more
    → TxnStands now stages commit t x
