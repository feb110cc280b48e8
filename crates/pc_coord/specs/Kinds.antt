-- What a coordinator goes by in a call, a reply and a step.
use Rattle.std.specs.Prelude.{ℕ, Option, None, Some}
use Rattle.pc_base.specs.declared.transaction.Priority.{Priority}
use Rattle.pc_coord.specs.declared.kinds.Decision.{Decision}
use Rattle.pc_coord.specs.declared.kinds.Decision.TheVariants as decisions
use Rattle.pc_proto.specs.declared.answer.Answer.{Answer}
use Rattle.pc_proto.specs.declared.answer.Answer.TheVariants as answers
use Rattle.pc_proto.specs.declared.call.Call.{Call}
use Rattle.pc_proto.specs.declared.call.Call.TheVariants as calls
use Rattle.pc_proto.specs.declared.reply.Reply.{Reply}
use Rattle.pc_proto.specs.declared.reply.Reply.TheVariants as replies
use Rattle.pc_proto.specs.declared.view.View.{View}
use Rattle.pc_proto.specs.declared.view.View.TheVariants as views
use Rattle.pc_wave.specs.declared.step.Step.{Step}
use Rattle.pc_wave.specs.declared.step.Step.TheVariants as steps

-- The priority at which the call begins a transaction, if it does.
abbrev pub begins_at : Call → Option Priority
begins_at (calls.Begin priority) = Some priority
begins_at _ = None

-- What a call that begins nothing is told where no transaction is open.
abbrev pub told_outside : Call → Answer
told_outside (calls.Learn id) = answers.NotYet
told_outside _ = answers.NoTxn

-- Where the reply says that a write was written, if it does.
abbrev pub written_at : Reply → Option ℕ
written_at (replies.Written ts) = Some ts
written_at _ = None

-- The view in a status.
abbrev pub status_in : Reply → Option View
status_in (replies.Status view) = Some view
status_in _ = None

abbrev pub decision_in : View → Decision
decision_in (views.Committed epoch ts locks) = decisions.Committed epoch ts
decision_in (views.Aborted epoch why locks) = decisions.Aborted why
decision_in (views.Pending epoch ts) = decisions.Refused ts
decision_in (views.Staging epoch ts writes) = decisions.Refused ts
decision_in _ = decisions.Nothing

-- What the reply to a stage, a commit or a heartbeat says of its transaction.
abbrev pub decision_of : Reply → Decision
decision_of (replies.Status view) = decision_in view
decision_of _ = decisions.Nothing

-- The conflict whose round is due, if one is.
abbrev pub conflict_due : Step → Option Reply
conflict_due (steps.Round number conflict) = Some conflict
conflict_due _ = None
