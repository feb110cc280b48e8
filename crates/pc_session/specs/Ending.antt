-- What a call of a session has made where its list ends in it: before the answer is told, or at its stop also just when it was told.
use Rattle.std.specs.Prelude.{◌≡◌, ℕ, ◌⊎◌, List, [], ◌∷◌, ◌++◌, All}
use Rattle.pc_desk.specs.declared.halt.Halt.{Halt}
use Rattle.pc_desk.specs.declared.halt.Halt.TheVariants as halts
use Rattle.pc_proto.specs.declared.answer.Answer.{Answer}
use Rattle.pc_proto.specs.declared.call.Call.{Call}
use Rattle.pc_proto.specs.declared.event.Event.{Event}
use Rattle.pc_proto.specs.declared.event.Event.TheVariants as events
use Rattle.pc_turns.specs.Order.{IsInBetween}

-- The events are what was sent and heard in the open call, and last the telling of its answer.
pub record AreToldAtLast (made : List Event) : Type 0 where
  pub between : List Event
  pub answer : Answer
  pub whole : made ≡ between ++ events.Tell answer ∷ []
  pub within : All IsInBetween between

-- The events are what was sent and heard in the open call before its list ended so; where that stopped, its last entry may tell the answer.
abbrev pub AreOfOpenCall : Halt → List Event → Type 0
AreOfOpenCall halts.Stopped made = All IsInBetween made ⊎ AreToldAtLast made
AreOfOpenCall halt made = All IsInBetween made

-- The events are the call's asking, and what was made in it since.
pub record AreOfCall (call : Call) (halt : Halt) (made : List Event) : Type 0 where
  pub reading : ℕ
  pub since : List Event
  pub begins : made ≡ events.Ask call reading ∷ since
  pub within : AreOfOpenCall halt since

-- The events are those of a call that its caller was not told the answer of, since its list ended so: none, or its asking and what was made
-- since.
abbrev pub AreOfBrokenCall : Call → Halt → List Event → Type 0
AreOfBrokenCall call halt made = (made ≡ []) ⊎ AreOfCall call halt made
