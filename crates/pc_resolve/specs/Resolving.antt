-- The finishing of a transaction, and what it does of itself.
use Rattle.std.specs.Prelude.{ℕ, ◌+◌, Bool, true, false, Option, None, Some, List, slice_get}
use Rattle.pc_base.specs.declared.transaction.TxnId.{TxnId}
use Rattle.pc_proto.specs.declared.fate.Fate.{Fate}
use Rattle.pc_proto.specs.declared.reply.Reply.{Reply}
use Rattle.pc_proto.specs.declared.reply.Reply.TheVariants as replies
use Rattle.pc_proto.specs.declared.request.Request.{Request}
use Rattle.pc_proto.specs.declared.request.Request.TheVariants as requests
use Rattle.pc_proto.specs.declared.machine.MachineNext.{MachineNext}
use Rattle.pc_proto.specs.declared.machine.MachineNext.TheVariants as nexts

-- A transaction that is finished: its name, its anchor, its fate and its locks; how many of them were settled; and whether a
-- reply to the removal of its record was heard.
pub record Resolving : Type 0 where
  pub id : TxnId
  pub anchor : List ℕ
  pub fate : Fate
  pub locks : List (List ℕ)
  pub settled : ℕ
  pub removed : Bool

-- The first lock that is not settled yet.
abbrev pub unsettled : Resolving → Option (List ℕ)
unsettled m = slice_get m.locks m.settled

-- The request that settles the lock of this key.
abbrev pub lock_resolve : Resolving → List ℕ → Request
lock_resolve m key = requests.Resolve m.id key m.fate

-- The request that removes the record.
abbrev pub remove_of : Resolving → Request
remove_of m = requests.Remove m.id m.anchor

-- What is due once every lock is settled.
abbrev pub at_end : Bool → Resolving → MachineNext
at_end true m = nexts.Finished
at_end false m = nexts.Send (remove_of m)

abbrev pub finishing_due : Option (List ℕ) → Resolving → MachineNext
finishing_due (Some key) m = nexts.Send (lock_resolve m key)
finishing_due None m = at_end m.removed m

-- What is due: the locks are settled one after another, then the record is removed.
abbrev pub finishing_next : Resolving → MachineNext
finishing_next m = finishing_due (unsettled m) m

-- A lock is settled where the reply says so.
abbrev pub with_reply : Reply → Resolving → Resolving
with_reply replies.Resolved m = record m { settled = m.settled + 1 }
with_reply _ m = m

abbrev pub finishing_heard : Option (List ℕ) → Reply → Resolving → Resolving
finishing_heard (Some key) reply m = with_reply reply m
finishing_heard None reply m = record m { removed = true }

-- After the reply to the request that was due.
abbrev pub finishing_after : Reply → Resolving → Resolving
finishing_after reply m = finishing_heard (unsettled m) reply m
