-- What an actor sent and heard.
use Rattle.std.specs.Prelude.{ℕ, ◌==◌, Bool, Option, None, Some, List, [], ◌∷◌, ◌++◌, filter, find}
use Rattle.std.specs.List.{list_any}
use Rattle.std.specs.Option.{option_map, option_to_list}
use Rattle.pc_base.specs.declared.entry.Entry.{Entry}
use Rattle.pc_proto.specs.declared.event.Event.{Event}
use Rattle.pc_proto.specs.declared.event.Event.TheVariants as events
use Rattle.pc_proto.specs.declared.reply.Reply.{Reply}
use Rattle.pc_proto.specs.declared.request.Request.{Request}

-- A message that the actor sent.
pub record Sent : Type 0 where
  pub number : ℕ
  pub range : ℕ
  pub request : Request

-- A reply that the actor heard: to its message of this number, which said this, evaluated at this step.
pub record Heard : Type 0 where
  pub number : ℕ
  pub request : Request
  pub reply : Reply
  pub step : ℕ

-- The reply in an evaluation's entry.
abbrev pub reply_in : Event → Option Reply
reply_in (events.Eval actor number reply) = Some reply
reply_in _ = None

-- The reply in the entry that is named, if there is one.
abbrev pub reply_named : Option (Entry Event) → Option Reply
reply_named None = None
reply_named (Some e) = reply_in e.event

-- What the message of this number said.
abbrev pub request_sent : ℕ → List Sent → Option Request
request_sent number sent = option_map (λ s. s.request) (find (λ s. s.number == number) sent)

-- What was heard, where both the message and its reply are known.
abbrev pub heard_as : ℕ → ℕ → Option Request → Option Reply → Option Heard
heard_as number step (Some request) (Some reply) =
    Some (record { number = number; request = request; reply = reply; step = step })
heard_as number step (Some request) None = None
heard_as number step None reply = None

-- The reply that an event brings, where it is a hearing.
abbrev pub heard_by : Event → Option (Entry Event) → List Sent → Option Heard
heard_by (events.Hear number step) named sent = heard_as number step (request_sent number sent) (reply_named named)
heard_by _ named sent = None

-- The message that an event sends, if it sends one.
abbrev pub sent_by : Event → List Sent
sent_by (events.Send number range request) = record { number = number; range = range; request = request } ∷ []
sent_by _ = []

-- All messages sent, in order.
abbrev pub sent_after : Event → List Sent → List Sent
sent_after event sent = sent ++ sent_by event

-- The messages sent since the last call was asked.
abbrev pub sent_now_after : Event → List Sent → List Sent
sent_now_after (events.Ask call reading) sent_now = []
sent_now_after event sent_now = sent_now ++ sent_by event

-- All replies heard, in order.
abbrev pub heard_after : Option Heard → List Heard → List Heard
heard_after h heard = heard ++ option_to_list h

-- The replies heard since the last call was asked.
abbrev pub heard_now_after : Event → Option Heard → List Heard → List Heard
heard_now_after (events.Ask call reading) h heard_now = []
heard_now_after event h heard_now = heard_now ++ option_to_list h

-- The reply is to one of these messages.
abbrev pub is_reply_to_one : List Sent → Heard → Bool
is_reply_to_one sent h = list_any (λ m. m.number == h.number) sent

-- Of these replies, those to one of these messages.
abbrev pub replies_to : List Sent → List Heard → List Heard
replies_to sent heard = filter (is_reply_to_one sent) heard
