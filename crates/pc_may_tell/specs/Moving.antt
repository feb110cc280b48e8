-- What was heard time and again in the open call, as is kept.
use Rattle.std.specs.Prelude.{◌&&◌, List, IsTrue}
use Rattle.pc_base.specs.declared.limits.TheConstants.{MOST_CONFLICTS}
use Rattle.pc_base.specs.declared.transaction.TxnId.{TxnId}
use Rattle.pc_known.specs.declared.sends.Sends.{Sends}
use Rattle.pc_known.specs.Sends.{is_number_now}
use Rattle.pc_proto.specs.declared.request.Request.{Request}
use Rattle.pc_proto.specs.Replies.{is_conflict_with}
use Rattle.pc_world.specs.Counting.{AtLeast, LastIs}
use Rattle.pc_world.specs.Known.Traffic.{Heard}
use Rattle.pc_world.specs.Tell.Refusal.{IsConflictOf, is_moved}

-- This request met intents eight times, the last time of this holder.
pub record MetEightOf (holder : TxnId) (heard_now : List Heard) (request : Request) : Type 0 where
  pub eight : AtLeast (IsConflictOf request) MOST_CONFLICTS heard_now
  pub last : LastIs (IsConflictOf request) (λ h. IsTrue (is_conflict_with holder h.reply)) heard_now

-- A stage or commit that was sent in the open call was moved.
abbrev pub IsMovedNow : Sends → Heard → Type 0
IsMovedNow x h = IsTrue (is_number_now x h.number && is_moved h.request h.reply)
