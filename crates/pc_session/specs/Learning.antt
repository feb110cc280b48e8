-- A session learns of a commit: it meets the telling of it, where that is handed on to it, and is told so. Own profile.
use Rattle.std.specs.Prelude.{◌≡◌, ℕ, Bool, true, false, is_some, ◌⊎◌, Option, None, Some, List, [], ◌∷◌, ◌++◌}
use Rattle.pc_base.specs.declared.transaction.TxnId.{TxnId}
use Rattle.pc_coord.specs.declared.due.Due.TheVariants as dues
use Rattle.pc_desk.specs.declared.halt.Halt.{Halt}
use Rattle.pc_desk.specs.declared.halt.Halt.TheVariants as halts
use Rattle.pc_proto.specs.declared.answer.Answer.{Answer}
use Rattle.pc_proto.specs.declared.answer.Answer.TheVariants as answers
use Rattle.pc_proto.specs.declared.call.Call.TheVariants as calls
use Rattle.pc_proto.specs.declared.event.Event.{Event}
use Rattle.pc_proto.specs.declared.event.Event.TheVariants as events
use Rattle.pc_session.specs.Calls.{HasCalled}
use Rattle.pc_session.specs.InCall.{HasAsked, HasGoneInside}
use Rattle.pc_session.specs.Session.{SessionMeaning, session_knows}
use Rattle.pc_turns.specs.Order.{events_of}
use Rattle.pc_world.specs.Known.{call_of}

-- What a learn that knows the commit is told, and one that does not.
abbrev pub answer_to_learn : Bool → Answer
answer_to_learn true = answers.Learnt
answer_to_learn false = answers.NotYet

-- What a learn does between its asking and its telling: it meets the commit, which was told at this step; or nothing.
abbrev pub met_at : TxnId → Option ℕ → List Event
met_at id None = []
met_at id (Some step) = events.Meet id step ∷ []

-- The session asked to learn of this transaction and was told whether its commit is known to it; between the two it met that commit, or did
-- nothing.
pub record HasLearnt {C : Type 0} (old new : SessionMeaning C) (id : TxnId) (known : Bool) : Type 0 where
  pub step : Option ℕ
  pub found : known ≡ is_some step
  pub called : HasCalled old new (calls.Learn id) (answer_to_learn known)
  pub exact : called.whole.between ≡ met_at id step

-- The events are those of a learn that was not told its answer: none; its asking; or, where a token was given, its asking and the meeting of
-- that commit.
abbrev pub AreOfUntoldLearn : TxnId → Bool → List Event → Type 0
AreOfUntoldLearn id given made =
    (made ≡ [])
    ⊎ ((reading : ℕ) × (made ≡ events.Ask (calls.Learn id) reading ∷ []))
    ⊎ ((given ≡ true) × (reading : ℕ) × (step : ℕ) × (made ≡ events.Ask (calls.Learn id) reading ∷ events.Meet id step ∷ []))

-- The events are all of a learn: its asking; where a token was given, the meeting of that commit; and its telling.
pub record AreOfToldLearn (id : TxnId) (given : Bool) (made : List Event) : Type 0 where
  pub reading : ℕ
  pub step : Option ℕ
  pub met : given ≡ is_some step
  pub whole : made ≡ events.Ask (calls.Learn id) reading ∷ (met_at id step ++ events.Tell (answer_to_learn given) ∷ [])

-- The events are those of a learn whose list ended so; where that stopped, its last entry may be the telling.
abbrev pub AreOfBrokenLearn : TxnId → Bool → Halt → List Event → Type 0
AreOfBrokenLearn id given halts.Stopped made = AreOfUntoldLearn id given made ⊎ AreOfToldLearn id given made
AreOfBrokenLearn id given halt made = AreOfUntoldLearn id given made

-- The open call learns of this transaction: nothing was heard in it, and it is to be told that the commit is not known yet.
pub record IsLearning {C : Type 0} (s : SessionMeaning C) (id : TxnId) : Type 0 where
  pub due : s.coordinator.due ≡ dues.Tell answers.NotYet
  pub asked : call_of (session_knows s) ≡ Some (calls.Learn id)
  pub closed : (session_knows s).is_open ≡ false
  pub quiet : (session_knows s).heard_now ≡ []

-- The session asked to learn of this transaction, at this reading, and did nothing else.
pub record HasAskedToLearn {C : Type 0} (old new : SessionMeaning C) (id : TxnId) (reading : ℕ) : Type 0 where
  pub learning : IsLearning new id
  pub asked : HasAsked old new (calls.Learn id) reading
  pub just : events_of asked.part ≡ events.Ask (calls.Learn id) reading ∷ []

-- In its open learn the session met the commit of this transaction, which was told at this step, and did nothing else.
pub record HasMet {C : Type 0} (old new : SessionMeaning C) (id : TxnId) (step : ℕ) : Type 0 where
  pub inside : HasGoneInside old new
  pub just : events_of inside.part ≡ events.Meet id step ∷ []
