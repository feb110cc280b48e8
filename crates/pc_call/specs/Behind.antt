-- What a transaction leaves that was told committed: its record is to say so before its locks are settled.
use Rattle.std.specs.Prelude.{ℕ, Option, None, Some, List, ⊤}
use Rattle.pc_call.specs.declared.over.Left.{Left}
use Rattle.pc_call.specs.declared.purpose.Purpose.{Purpose}
use Rattle.pc_call.specs.declared.purpose.Purpose.TheVariants as purposes
use Rattle.pc_proto.specs.declared.fate.Fate.{Fate}
use Rattle.pc_txn.specs.declared.txn.OpenTxn.{OpenTxn}
use Rattle.pc_txn.specs.Opened.{meta_now}

-- What is left of a transaction of this anchor that ends with this fate, whose record is to be committed first where a timestamp is given; one that wrote nothing
-- leaves nothing.
abbrev pub left_behind : Option (List ℕ) → Option ℕ → Fate → OpenTxn → Option Left
left_behind None staged fate x = None
left_behind (Some anchor) staged fate x = Some (record { meta = meta_now x anchor; staged = staged; fate = fate; locks = x.locks })

-- A call that may hear that its transaction is committed, otherwise than by its commit: it stages, or sends its last heartbeat.
abbrev pub MayFindCommitted : Purpose → Type 0
MayFindCommitted (purposes.Stage refusals) = ⊤
MayFindCommitted (purposes.LastBeat answer reading) = ⊤
MayFindCommitted _ = ⊥

-- A call that may hear that its transaction was aborted, otherwise than by its own abort or its first heartbeat: it commits, stages, or sends its last
-- heartbeat.
abbrev pub MayFindAborted : Purpose → Type 0
MayFindAborted (purposes.Commit refusals) = ⊤
MayFindAborted purpose = MayFindCommitted purpose
