-- How a transaction came to restart: its session was told so, and a refresh was answered that the write stands in its way.
use Rattle.std.specs.Prelude.{◌≡◌, ℕ, List, Contains}
use Rattle.pc_base.specs.declared.actor.ActorId.{ActorId}
use Rattle.pc_base.specs.declared.entry.Entry.{Entry}
use Rattle.pc_base.specs.declared.span.Span.{Span}
use Rattle.pc_base.specs.declared.transaction.TxnId.{TxnId}
use Rattle.pc_implicit.specs.Replied.{WasReplied}
use Rattle.pc_proto.specs.declared.answer.Answer.TheVariants as answers
use Rattle.pc_proto.specs.declared.event.Event.{Event}
use Rattle.pc_proto.specs.declared.event.Event.TheVariants as events
use Rattle.pc_proto.specs.declared.reply.Reply.TheVariants as replies
use Rattle.pc_proto.specs.declared.request.Request.TheVariants as requests

-- The session was told to restart for this write, and a refresh was answered that this write stands in its way.
pub record WasRestarted (history : List (Entry Event)) (actor : ActorId) (key : List ℕ) (ts : ℕ) : Type 0 where
  pub tell : Entry Event
  pub told : Contains history tell
  pub whose : tell.actor ≡ actor
  pub tells : tell.event ≡ events.Tell (answers.Restart key ts)
  pub refresher : TxnId
  pub from : ℕ
  pub to : ℕ
  pub span : Span
  pub refused : WasReplied history (requests.Refresh refresher from to span) (replies.Unrefreshed key ts)
