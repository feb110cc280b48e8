-- Which message was lost.
use Rattle.std.specs.Prelude.{ℕ, ◌⊎◌, List, Any, IsTrue, not, reverse}
use Rattle.pc_proto.specs.declared.request.Request.{Request}
use Rattle.pc_proto.specs.Requests.{is_put_of}
use Rattle.pc_world.specs.Known.{Known}
use Rattle.pc_world.specs.Known.Traffic.{Sent}
use Rattle.pc_world.specs.Known.Transactions.{Txn}
use Rattle.pc_world.specs.Known.Writes.{is_proved}
use Rattle.pc_world.specs.SameRequest.{IsSameMessage}
use Rattle.pc_world.specs.Tell.Refusal.{AreLastLost, IsUnprovedPut}

-- The request puts a write of the transaction's epoch that is not proved.
abbrev pub IsUnprovedIn : Txn → Request → Type 0
IsUnprovedIn t request = Any (λ w. IsTrue (not (is_proved w)) × IsTrue (is_put_of t.id t.epoch w.seq request)) t.writes

-- The message was sent in the open call or puts a write that is not proved, and the last so many sends of its request were lost.
pub record WasSentLost (k : Known) (faults : ℕ) (m : Sent) : Type 0 where
  pub lost : AreLastLost k.heard m (reverse k.sent) faults
  pub whose : Any (IsSameMessage m) k.sent_now ⊎ IsUnprovedPut k.txns m
