-- What a session or a recoverer that has finished leaves: its own list, what it knows, and the messages that still wait to be evaluated.
use Rattle.std.specs.Prelude.{◌≡◌, ℕ, ◌+◌, ◌≤◌, ◌⊎◌, false, Some, List, length, map, slice_get, All, Contains, IsTrue}
use Rattle.pc_desk.specs.Desk.{GivesOnce, IsReadyToGo, WaitingMessage}
use Rattle.pc_desk.specs.Ending.{KnowsEvaluation, WaitsStill, WaitsUnheard}
use Rattle.pc_desk.specs.Refused.{WasGivenBack}
use Rattle.pc_history.specs.declared.view.Known.{Known as KnownEntry}
use Rattle.pc_history.specs.declared.view.Part.{Part}
use Rattle.pc_history.specs.Meanings.{ActorMeaning}
use Rattle.pc_proto.specs.declared.event.Event.{Event}
use Rattle.pc_turns.specs.Shares.{client_at}
use Rattle.pc_world.specs.Known.{known_of}
use Rattle.pc_world.specs.Known.Traffic.{Sent}
use Rattle.pc_world.specs.Local.{Head}
use Rattle.pc_world.specs.Tell.Refusal.{is_heard}

-- An actor that has finished, and its messages that wait.
abbrev pub Leaver : Type 0
Leaver = ActorMeaning Head Event × List WaitingMessage

-- The message, or one that the actor sent before it, was not heard, and was refused by its range, which is full.
pub record KnowsHeldUp (limit : ℕ) (part : Part Event) (m : Sent) : Type 0 where
  pub front : Sent
  pub sent : Contains (known_of part.own).sent front
  pub no_later : front.number ≤ m.number
  pub unheard : is_heard (known_of part.own).heard front ≡ false
  pub refused : WasGivenBack limit part front

-- The message was heard, or the actor knows an evaluation of it, or it is held up.
abbrev pub IsSettled : ℕ → Part Event → Sent → Type 0
IsSettled limit part m = IsTrue (is_heard (known_of part.own).heard m) ⊎ KnowsEvaluation part m.number ⊎ KnowsHeldUp limit part m

-- The message waits in the outbox, or all of it is settled.
abbrev pub WaitsOrIsSettled : ℕ → Part Event → List WaitingMessage → Sent → Type 0
WaitsOrIsSettled limit part rest m = WaitsStill (map (λ w. w.posted) rest) m.number ⊎ IsSettled limit part m

-- The actor gave at most one use of each of its entries, and none of its messages was lost; where a range has so many entries, it is full.
pub record MayLeave (limit : ℕ) (part : Part Event) (rest : List WaitingMessage) : Type 0 where
  pub given : GivesOnce part
  pub waits : All (λ w. WaitsUnheard (known_of part.own) w.posted) rest
  pub messages : All (WaitsOrIsSettled limit part rest) (known_of part.own).sent

-- The client of this index has finished, and its messages that wait may go.
pub record IsLeaver (limit : ℕ) (head : Head) (index : ℕ) (l : Leaver) : Type 0 where
  pub whose : l.0.part.id ≡ client_at head index
  pub ready : All (IsReadyToGo l.0.part.id head.splits) l.1
  pub may : MayLeave limit l.0.part l.1

-- These are the clients of the head, in order, its sessions first, and each has finished.
pub record AreLeavers (limit : ℕ) (head : Head) (leavers : List Leaver) : Type 0 where
  pub count : length leavers ≡ head.sessions + head.recoverers
  pub each : (index : ℕ) (l : Leaver) → slice_get leavers index ≡ Some l → IsLeaver limit head index l

-- What is left of the actor's messages was evaluated, but for those that are held up; it made no entry, and forgot nothing.
pub record HasSettledAll (limit : ℕ) (old new : Part Event) : Type 0 where
  pub own : new.own ≡ old.own
  pub id : new.id ≡ old.id
  pub known : (k : KnownEntry Event) → Contains old.known k → Contains new.known k
  pub given : GivesOnce new
  pub settled : All (IsSettled limit new) (known_of new.own).sent
