-- How often a message is evaluated.
use Rattle.std.specs.Prelude.{◌≡◌, ℕ, ◌≤◌, Bool, true, false, ◌&&◌, ◌==◌, List, Contains, count_by}
use Rattle.pc_base.specs.declared.actor.ActorId.{ActorId}
use Rattle.pc_base.specs.declared.entry.Entry.{Entry}
use Rattle.pc_history.specs.Closed.{spenders}
use Rattle.pc_history.specs.Own.{same_id}
use Rattle.pc_proto.specs.declared.event.Event.{Event}
use Rattle.pc_proto.specs.declared.event.Event.TheVariants as events
use Rattle.pc_world.specs.Caused.{Evaluates}
use Rattle.pc_world.specs.Local.{Head}
use Rattle.pc_world.specs.Named.{is_send_of}
use Rattle.pc_world.specs.Run.{protocol}

-- The event evaluates the sender's message of this number.
abbrev pub is_evaluation_of : ActorId → ℕ → Event → Bool
is_evaluation_of sender number (events.Eval actor sent reply) = same_id sender actor && sent == number
is_evaluation_of sender number _ = false

-- How often a history evaluates the sender's message of this number.
abbrev pub evaluations_of : ActorId → ℕ → List (Entry Event) → ℕ
evaluations_of sender number history = count_by (λ e. is_evaluation_of sender number e.event) history

-- The message was sent by this entry, of which one use was given at most; and this entry, which the sender was told of, evaluates it.
pub record IsServed (head : Head) (history : List (Entry Event)) (sender : ActorId) (number : ℕ) : Type 0 where
  pub send : Entry Event
  pub sent : Contains history send
  pub whose : send.actor ≡ sender
  pub says : is_send_of number send.event ≡ true
  pub spent : spenders (protocol head) send.step history ≤ 1
  pub evaluation : Entry Event
  pub evaluated : Contains history evaluation
  pub of_it : Evaluates sender number evaluation.event
