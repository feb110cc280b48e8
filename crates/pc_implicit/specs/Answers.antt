-- What a range answered of a transaction's record, and when two answers agree.
use Rattle.std.specs.Prelude.{◌≡◌, ℕ, ⊤, Some, List}
use Rattle.pc_base.specs.declared.actor.ActorId.TheVariants as actors
use Rattle.pc_base.specs.declared.entry.Entry.{Entry}
use Rattle.pc_base.specs.declared.transaction.TxnId.{TxnId}
use Rattle.pc_history.specs.Own.{named_in}
use Rattle.pc_proto.specs.declared.event.Event.{Event}
use Rattle.pc_proto.specs.declared.reply.Reply.{Reply}
use Rattle.pc_proto.specs.declared.request.Request.{Request}
use Rattle.pc_proto.specs.declared.view.View.{View}
use Rattle.pc_proto.specs.declared.view.View.TheVariants as views
use Rattle.pc_proto.specs.Replies.{view_in}
use Rattle.pc_proto.specs.Requests.{subject}
use Rattle.pc_world.specs.Known.Traffic.{reply_in}
use Rattle.pc_world.specs.Local.{Head}
use Rattle.pc_world.specs.Named.{request_named}
use Rattle.pc_world.specs.Run.{protocol}

-- After this history the range evaluated a request to the transaction's record, and answered this view.
pub record Answers (head : Head) (before : List (Entry Event)) (range : ℕ) (id : TxnId) (view : View) (e : Entry Event) : Type 0 where
  pub evaluated : e.actor ≡ actors.Range range
  pub request : Request
  pub asked : request_named (named_in (protocol head) before e.event) ≡ Some request
  pub about : subject request ≡ Some id
  pub reply : Reply
  pub told : reply_in e.event ≡ Some reply
  pub shown : view_in reply ≡ Some view

-- Two views do not tell different decisions: one commit, or one abort of one cause.
abbrev pub Agree : View → View → Type 0
Agree (views.Committed epoch ts locks) (views.Committed other_epoch other_ts other_locks) = (epoch ≡ other_epoch) × (ts ≡ other_ts)
Agree (views.Committed epoch ts locks) (views.Aborted other_epoch why other_locks) = ⊥
Agree (views.Aborted epoch why locks) (views.Committed other_epoch ts other_locks) = ⊥
Agree (views.Aborted epoch why locks) (views.Aborted other_epoch other_why other_locks) = (epoch ≡ other_epoch) × (why ≡ other_why)
Agree _ _ = ⊤
