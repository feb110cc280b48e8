-- Who pushes in the rounds of a transaction's conflicts.
use Rattle.std.specs.Prelude.{◌≡◌, Option, None, Some}
use Rattle.pc_coord.specs.declared.pusher.Pusher.{Pusher}
use Rattle.pc_txn.specs.declared.txn.OpenTxn.{OpenTxn}
use Rattle.pc_world.specs.Known.{Known, open_txn}
use Rattle.pc_world.specs.Known.Transactions.{Txn}

-- Who pushes, with this as the open transaction.
abbrev pub pusher_of : Option OpenTxn → Option Pusher
pusher_of None = None
pusher_of (Some x) = Some (record { id = x.id; level = x.priority })

-- It is the open transaction, at its priority.
abbrev pub IsPusherOf : Known → Option Pusher → Type 0
IsPusherOf k pusher = (t : Txn) → open_txn k ≡ Some t → pusher ≡ Some (record { id = t.id; level = t.priority })
