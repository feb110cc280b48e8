-- One message that is sent, evaluated and heard, before the next.
use Rattle.std.specs.Prelude.{◌≡◌, ℕ, false, None, Some, [], ◌∷◌}
use Rattle.pc_base.specs.declared.actor.ActorId.{ActorId}
use Rattle.pc_desk.specs.Desk.{DeskMeaning, MaySendNow}
use Rattle.pc_exchange.specs.Growing.{HasGoneBeside, HasAllBack}
use Rattle.pc_history.specs.declared.pair.Pair.{Pair}
use Rattle.pc_history.specs.Own.{pair}
use Rattle.pc_history.specs.Parts.{entry_of}
use Rattle.pc_proto.specs.declared.event.Event.{Event}
use Rattle.pc_proto.specs.declared.event.Event.TheVariants as events
use Rattle.pc_proto.specs.declared.reply.Reply.{Reply}
use Rattle.pc_proto.specs.declared.request.Request.{Request}
use Rattle.pc_proto.specs.Requests.{is_put, is_refresh}
use Rattle.pc_range.specs.Message.{evaluation, sending}
use Rattle.pc_world.specs.Answering.{MayAnswer}
use Rattle.pc_world.specs.Exchange.{IsPossibleReply}
use Rattle.pc_follows.specs.CallMessages.{IsOfRound}
use Rattle.pc_world.specs.Known.{known_of, next_number}
use Rattle.pc_world.specs.Known.Statements.{Statement}

-- The actor may send this message now, which is no put and no refresh, and in a call one of a conflict's round, and hear the reply: no other
-- is on its way.
pub record MayExchangeNow {C : Type 0} (d : DeskMeaning C) (request : Request) : Type 0 where
  pub back : HasAllBack d
  pub may : MaySendNow d.log request
  pub no_put : is_put request ≡ false
  pub no_refresh : is_refresh request ≡ false
  pub round : (s : Statement) → (known_of d.log.part.own).statement ≡ Some s → IsOfRound request

-- The entry, at this step, in which the actor sends this message.
abbrev pub sent_pair : ActorId → ℕ → ℕ → ℕ → Request → Pair Event
sent_pair id step number range request = pair (sending step id number range request) None

-- The entry, at this step, in which the actor hears the reply to its message of this number, with the range's evaluation of that.
abbrev pub heard_pair : ActorId → ℕ → ℕ → ℕ → ℕ → Reply → Pair Event
heard_pair id step number range evaluated reply =
    pair (entry_of step id (events.Hear number evaluated)) (Some (evaluation evaluated range id number reply))

-- The actor sent this message under its next number, some range evaluated it, and the actor heard this reply, of the message's kind.
pub record WasExchanged {C : Type 0} (old new : DeskMeaning C) (request : Request) (reply : Reply) : Type 0 where
  pub range : ℕ
  pub evaluated_by : ℕ
  pub sent_at : ℕ
  pub evaluated_at : ℕ
  pub heard_at : ℕ
  pub goes :
      HasGoneBeside old new (
      sent_pair old.log.part.id sent_at (next_number (known_of old.log.part.own)) range request
      ∷ heard_pair old.log.part.id heard_at (next_number (known_of old.log.part.own)) evaluated_by evaluated_at reply ∷ [])
  pub kind : MayAnswer request reply
  pub possible : IsPossibleReply request reply
