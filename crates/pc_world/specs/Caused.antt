-- When the entries so far let an event happen. Own profile: messages are heard late, in any order or never, and at most once.
use Rattle.std.specs.Prelude.{◌≡◌, ℕ, List, Any, ⊤}
use Rattle.pc_base.specs.declared.actor.ActorId.{ActorId}
use Rattle.pc_base.specs.declared.actor.ActorId.TheVariants as actors
use Rattle.pc_base.specs.declared.entry.Entry.{Entry}
use Rattle.pc_base.specs.declared.transaction.TxnId.{TxnId}
use Rattle.pc_proto.specs.declared.answer.Answer.TheVariants as answers
use Rattle.pc_proto.specs.declared.event.Event.{Event}
use Rattle.pc_proto.specs.declared.event.Event.TheVariants as events

-- The event sends the message of this number to this range.
abbrev pub SendsTo : ActorId → ℕ → Event → Type 0
SendsTo (actors.Range range) number (events.Send sent to request) = (sent ≡ number) × (to ≡ range)
SendsTo _ _ _ = ⊥

-- The actor's message of this number, sent to this range.
pub record IsSendTo (range actor : ActorId) (number : ℕ) (e : Entry Event) : Type 0 where
  pub whose : e.actor ≡ actor
  pub send : SendsTo range number e.event

-- The event evaluates the actor's message of this number.
abbrev pub Evaluates : ActorId → ℕ → Event → Type 0
Evaluates actor number (events.Eval sender sent reply) = (sender ≡ actor) × (sent ≡ number)
Evaluates actor number _ = ⊥

-- The evaluation, at this step, of the actor's message of this number.
pub record IsEvalOf (actor : ActorId) (number step : ℕ) (e : Entry Event) : Type 0 where
  pub at : e.step ≡ step
  pub eval : Evaluates actor number e.event

-- The event tells that the transaction committed.
abbrev pub TellsCommitted : TxnId → Event → Type 0
TellsCommitted id (events.Tell (answers.Committed other ts)) = other ≡ id
TellsCommitted id _ = ⊥

-- The telling, at this step, that the transaction committed.
pub record IsCommittedTold (id : TxnId) (step : ℕ) (e : Entry Event) : Type 0 where
  pub at : e.step ≡ step
  pub tell : TellsCommitted id e.event

-- An evaluation's message was sent to that range, a hearing's reply was evaluated for the actor's message of that number, a
-- commit that is met was told, and every other event needs no cause.
abbrev pub IsCaused : List (Entry Event) → Event → ActorId → Type 0
IsCaused before (events.Eval actor number reply) range = Any (IsSendTo range actor number) before
IsCaused before (events.Hear number step) actor = Any (IsEvalOf actor number step) before
IsCaused before (events.Meet id step) actor = Any (IsCommittedTold id step) before
IsCaused before (events.Ask call reading) actor = ⊤
IsCaused before (events.Send number range request) actor = ⊤
IsCaused before (events.Tell answer) actor = ⊤
