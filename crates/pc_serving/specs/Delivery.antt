-- A message that goes to its range, and what becomes of it there.
use Rattle.std.specs.Prelude.{◌≡◌, ℕ, ◌≤◌, List, length, Result, Ok, Err}
use Rattle.pc_history.specs.declared.named.Named.{Ghosts}
use Rattle.pc_history.specs.Parts.{uses_left}
use Rattle.pc_proto.specs.Stamps.{request_stamps}
use Rattle.pc_range.specs.Cell.{IsFullAt}
use Rattle.pc_range.specs.declared.commit_world.CommitWorld.{CommitWorld}
use Rattle.pc_range.specs.declared.message.ReplyMsg.{ReplyMsg}
use Rattle.pc_range.specs.declared.message.ServeFault.{ServeFault}
use Rattle.pc_range.specs.Message.{ComesAfter, IsEvalNote, IsToldBefore}
use Rattle.pc_serving.specs.declared.delivery.Delivery.{Delivery}
use Rattle.pc_world.specs.Stamps.{AllBelowGreatest}

-- The message's range is there, where the ranges are cut at these keys; and it may be evaluated once more.
pub record MayBeServed {N : Type 0} {G : Ghosts N CommitWorld} (splits : List (List ℕ)) (d : Delivery N G) : Type 0 where
  pub there : d.message.range ≤ length splits
  pub use_left : 1 ≤ uses_left d.message.note.known
  pub below : AllBelowGreatest (request_stamps d.message.request)

-- The reply is that of the message's evaluation by its range, behind its sending and behind what was told of beside it.
pub record IsReplyTo {N : Type 0} {G : Ghosts N CommitWorld} (d : Delivery N G) (r : ReplyMsg N) : Type 0 where
  pub number : r.number ≡ d.message.number
  pub told : IsEvalNote d.message.sender d.message.number d.message.range r.step r.reply r.note.known
  pub later : IsToldBefore r.step d.message.note.known
  pub behind : ComesAfter r.step d.last.known

-- The message was evaluated, with this reply; or it was refused, by its range, which has so many entries and gives it back, or for want of memory.
abbrev pub Became : {N : Type 0} {G : Ghosts N CommitWorld} → ℕ → Delivery N G → Result (ReplyMsg N) (ServeFault N G) → Type 0
Became limit d (Ok r) = IsReplyTo d r
Became limit d (Err fault) = IsFullAt d.message.range limit d.message fault
