-- Which earlier entry an event names: an evaluation the send of its actor and number, a hearing the evaluation at its step, a
-- meeting the telling at its step.
use Rattle.std.specs.Prelude.{ℕ, Bool, true, false, ◌&&◌, ◌==◌, Option, None, Some}
use Rattle.pc_base.specs.declared.entry.Entry.{Entry}
use Rattle.pc_history.specs.Own.{same_id}
use Rattle.pc_proto.specs.declared.event.Event.{Event}
use Rattle.pc_proto.specs.declared.event.Event.TheVariants as events
use Rattle.pc_proto.specs.declared.request.Request.{Request}

-- The event sends the message of this number.
abbrev pub is_send_of : ℕ → Event → Bool
is_send_of number (events.Send sent range request) = sent == number
is_send_of number _ = false

-- The event is an evaluation.
abbrev pub is_eval : Event → Bool
is_eval (events.Eval actor number reply) = true
is_eval _ = false

-- The event tells an answer.
abbrev pub is_tell : Event → Bool
is_tell (events.Tell answer) = true
is_tell _ = false

-- The event names this entry.
abbrev pub names : Event → Entry Event → Bool
names (events.Eval actor number reply) e = same_id actor e.actor && is_send_of number e.event
names (events.Hear number step) e = e.step == step && is_eval e.event
names (events.Meet id step) e = e.step == step && is_tell e.event
names _ e = false

-- The request of a send's entry.
abbrev pub request_in : Event → Option Request
request_in (events.Send number range request) = Some request
request_in _ = None

-- The request of the entry that is named.
abbrev pub request_named : Option (Entry Event) → Option Request
request_named None = None
request_named (Some e) = request_in e.event
