-- When an event may come next in its actor's own list. Own profile.
use Rattle.std.specs.Prelude.{◌≡◌, ℕ, ◌≤◌, Bool, true, false, ◌==◌, not, Option, None, Some, List, length, IsTrue}
use Rattle.std.specs.List.{list_any}
use Rattle.pc_base.specs.declared.actor.ActorId.{ActorId}
use Rattle.pc_base.specs.declared.actor.ActorId.TheVariants as actors
use Rattle.pc_base.specs.declared.entry.Entry.{Entry}
use Rattle.pc_base.specs.declared.transaction.TxnId.{TxnId}
use Rattle.pc_history.specs.declared.pair.Pair.{Pair}
use Rattle.pc_proto.specs.declared.call.Call.{Call}
use Rattle.pc_proto.specs.declared.call.Call.TheVariants as calls
use Rattle.pc_proto.specs.declared.event.Event.{Event}
use Rattle.pc_proto.specs.declared.event.Event.TheVariants as events
use Rattle.pc_proto.specs.declared.reply.Reply.{Reply}
use Rattle.pc_proto.specs.declared.request.Request.{Request}
use Rattle.pc_world.specs.Evaluation.{reply}
use Rattle.pc_world.specs.Known.{Known, call_of, known_of}
use Rattle.pc_world.specs.MaySend.{MaySend}
use Rattle.pc_world.specs.MayTell.{MayTell}
use Rattle.pc_world.specs.Named.{request_named}
use Rattle.pc_world.specs.RangeState.{RangeState}
use Rattle.pc_world.specs.StateOf.{state_of}

-- The actors of a run: a range for each split and one more, so many sessions, so many recoverers.
pub record Head : Type 0 where
  pub splits : List (List ℕ)
  pub sessions : ℕ
  pub recoverers : ℕ

-- The head has the actor.
abbrev pub IsActorOf : Head → ActorId → Type 0
IsActorOf head (actors.Range range) = range ≤ length head.splits
IsActorOf head (actors.Session number) = (1 ≤ number) × (number ≤ head.sessions)
IsActorOf head (actors.Recoverer number) = (1 ≤ number) × (number ≤ head.recoverers)

-- A range answers as its state and the request say.
abbrev pub IsAnswer : Option Request → RangeState → Reply → Type 0
IsAnswer None s told = ⊥
IsAnswer (Some request) s told = told ≡ reply request s

-- The call is a recoverer's round.
abbrev pub is_round : Call → Bool
is_round calls.Round = true
is_round _ = false

-- Rounds are a recoverer's, all other calls a session's.
abbrev pub IsCallOf : ActorId → Call → Type 0
IsCallOf (actors.Session number) call = is_round call ≡ false
IsCallOf (actors.Recoverer number) call = is_round call ≡ true
IsCallOf (actors.Range number) call = ⊥

-- Begin and learn come where no transaction is open.
abbrev pub is_outside : Call → Bool
is_outside (calls.Begin priority) = true
is_outside (calls.Learn id) = true
is_outside _ = false

-- A call may be asked where none is open.
pub record MayAsk (actor : ActorId) (k : Known) (call : Call) : Type 0 where
  pub none_open : k.statement ≡ None
  pub whose : IsCallOf actor call
  pub outside : is_outside call ≡ true → k.is_open ≡ false

-- A message may be heard once.
pub record MayHear (k : Known) (number : ℕ) : Type 0 where
  pub sent : IsTrue (list_any (λ m. m.number == number) k.sent)
  pub unheard : IsTrue (not (list_any (λ h. h.number == number) k.heard))

-- A commit is met in a learn.
pub record MayMeet (k : Known) : Type 0 where
  pub id : TxnId
  pub asked : call_of k ≡ Some (calls.Learn id)

-- What an actor that is no range may do next.
abbrev pub MayDo : Head → ActorId → Known → Event → Type 0
MayDo head actor k (events.Ask call reading) = MayAsk actor k call
MayDo head actor k (events.Send number range request) = MaySend head.splits actor k number range request
MayDo head actor k (events.Eval sender number told) = ⊥
MayDo head actor k (events.Hear number step) = MayHear k number
MayDo head actor k (events.Tell answer) = MayTell head.splits actor k answer
MayDo head actor k (events.Meet id step) = MayMeet k

-- A range only evaluates.
abbrev pub MayEvaluate : RangeState → Event → Option (Entry Event) → Type 0
MayEvaluate s (events.Eval sender number told) named = IsAnswer (request_named named) s told
MayEvaluate s _ named = ⊥

-- What the actor may do next, after its own entries.
abbrev pub MayComeNext : Head → ActorId → List (Pair Event) → Event → Option (Entry Event) → Type 0
MayComeNext head (actors.Range range) own event named = MayEvaluate (state_of own) event named
MayComeNext head (actors.Session number) own event named = MayDo head (actors.Session number) (known_of own) event
MayComeNext head (actors.Recoverer number) own event named = MayDo head (actors.Recoverer number) (known_of own) event

-- The event may come next in the actor's own list.
pub record IsLocal (head : Head) (actor : ActorId) (own : List (Pair Event)) (event : Event) (named : Option (Entry Event)) : Type 0 where
  pub there : IsActorOf head actor
  pub next : MayComeNext head actor own event named
