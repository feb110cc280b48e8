-- How a session with its script learns of a commit: by a token of it, or without one. Own profile.
use Rattle.std.specs.Prelude.{◌≡◌, ℕ, Bool, true, false, cond, Option, None, List, [], ◌∷◌, ◌++◌}
use Rattle.pc_base.specs.declared.transaction.TxnId.{TxnId}
use Rattle.pc_proto.specs.declared.answer.Answer.TheVariants as answers
use Rattle.pc_proto.specs.declared.call.Call.TheVariants as calls
use Rattle.pc_proto.specs.declared.event.Event.{Event}
use Rattle.pc_proto.specs.declared.event.Event.TheVariants as events
use Rattle.pc_script.specs.Script.{learnt_of, next_call}
use Rattle.pc_scripted.specs.Scripted.{ScriptedMeaning}
use Rattle.pc_scripted.specs.Taking.{AsksInTurn, Move}
use Rattle.pc_turns.specs.Order.{events_of}

-- The transaction of which the script's next call learns, if it is a learn and the list has not ended.
abbrev pub learnt_ahead : {C : Type 0} → ScriptedMeaning C → Option TxnId
learnt_ahead s = cond s.session.desk.log.stopped None (learnt_of (next_call s.at))

-- The events of a learn of this transaction: its asking; then, where a token of the commit was given, the meeting of that commit and the
-- telling that it learnt; and else the telling of "not yet".
abbrev pub learn_events : TxnId → Bool → ℕ → ℕ → List Event
learn_events id true reading step = events.Ask (calls.Learn id) reading ∷ events.Meet id step ∷ events.Tell answers.Learnt ∷ []
learn_events id false reading step = events.Ask (calls.Learn id) reading ∷ events.Tell answers.NotYet ∷ []

-- These events begin such a learn, or are all of it.
pub record AreOfLearn (id : TxnId) (given : Bool) (made : List Event) : Type 0 where
  pub reading : ℕ
  pub step : ℕ
  pub rest : List Event
  pub whole : made ++ rest ≡ learn_events id given reading step

-- The session asks its script's next call, which learns of this transaction, with a token of the commit or without one.
abbrev pub LearnsInTurn : {C : Type 0} → ScriptedMeaning C → TxnId → Bool → Move
LearnsInTurn s id given ended mine part = AsksInTurn s ended mine part × AreOfLearn id given (events_of part)
